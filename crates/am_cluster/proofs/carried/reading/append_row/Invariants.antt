use Rattle.am_wire.specs.Inputs.{messages_of}
use Rattle.am_cluster.proofs.RowAdding.{HasAdded}
use Rattle.am_cluster.proofs.carried.reading.append_row.Given as goal

abbrev pub invariant-loop-message : goal.invariant-loop-message
invariant-loop-message g l = HasAdded g.V.FrameVersion.delivered (messages_of (g.V.Message.reads l.fn.unknown) l.row) l.message-iterator l.initial.versions.items l.versions.items
