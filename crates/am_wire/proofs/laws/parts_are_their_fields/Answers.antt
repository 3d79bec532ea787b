use Rattle.std.proofs.Common.{List, subst}
use Rattle.am_wire.specs.Fields.{FieldAt}
use Rattle.am_wire.specs.Messages.{AreSound}
use Rattle.am_wire.proofs.Meanings.{sound_read, sound_found, fault_found, fault_read}
use Rattle.am_wire.proofs.laws.parts_are_their_fields.Goals as goal

pub returns-clause-sound : goal.returns-clause-sound
returns-clause-sound c = λ table at bytes es. (
  λ h. subst (λ (fs : List FieldAt). AreSound table fs at bytes) h.1 (sound_found table at bytes h.0),
  sound_read table at bytes es,
)

pub returns-clause-fault : goal.returns-clause-fault
returns-clause-fault c = λ table at bytes fault. (fault_found table at bytes fault, fault_read table at bytes fault)
