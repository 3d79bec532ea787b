use Rattle.am_wire.specs.Fields.{fields_of}
use Rattle.am_wire.proofs.Taking.{Taken}
use Rattle.am_wire.proofs.message_reader.take_fields.Given as goal

abbrev pub invariant-loop-item : goal.invariant-loop-item
invariant-loop-item g l = Taken g.D.MessageReader.holds g.D.MessageReader.inside l.fn.draft l.draft (fields_of g.D.Schema.fitting l.at l.bytes) l.item-iterator
