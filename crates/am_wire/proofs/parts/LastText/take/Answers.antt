use Rattle.am_wire.specs.RoundTrip.Written.{text_is_clean}
use Rattle.am_wire.proofs.Picked.{text_is_at_fault}
use Rattle.am_wire.proofs.parts.LastText.take.Goals as goal

pub returns-in_default-text_of-clause-fault : goal.returns-in_default-text_of-clause-fault
returns-in_default-text_of-clause-fault c = λ _. rw c.in-Bytes.is (text_is_at_fault c.args.field.at c.in-Bytes.bytes.now c.in_default-text_of.ensures)

pub returns-in-Ok-clause-clean : goal.returns-in-Ok-clause-clean
returns-in-Ok-clause-clean c = rw c.in-Bytes.is (text_is_clean c.args.field.at c.in-Bytes.bytes.now c.in-Ok.ensures.1)
