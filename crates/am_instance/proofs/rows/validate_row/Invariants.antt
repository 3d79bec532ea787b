use Rattle.std.proofs.Common.{◌≡◌}
use Rattle.am_wire.specs.Inputs.{messages_of}
use Rattle.am_instance.specs.Deliveries.{first_fault}
use Rattle.am_instance.proofs.rows.validate_row.Given as goal

abbrev pub invariant-loop-message : goal.invariant-loop-message
invariant-loop-message g l = first_fault l.message-iterator ≡ first_fault (messages_of (g.V.Message.reads l.fn.unknown) l.row)
