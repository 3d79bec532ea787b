use Rattle.am_wire.specs.declared.unknown.Unknown.TheVariants.{Drop}
use Rattle.std.proofs.Common.{◌≡◌, map, take}
use Rattle.am_cluster.specs.BothStates.{log_state, silence_state}
use Rattle.am_cluster.specs.Recorded.{sent_in}
use Rattle.am_cluster.proofs.sending.sent_in.Given as goal

abbrev pub invariant-loop-frame : goal.invariant-loop-frame
invariant-loop-frame l =
    (map (λ frame. frame.items) l.sent.silences.items ≡ sent_in silence_state Drop (take l.frame-index l.frames))
    × (map (λ frame. frame.items) l.sent.log.items ≡ sent_in log_state Drop (take l.frame-index l.frames))
