use Rattle.std.proofs.Common.{length}
use Rattle.am_gossip.proofs.Streaming.{HasRead}
use Rattle.am_gossip.proofs.reading.read_frames.Given as goal

abbrev pub invariant-loop-frame : goal.invariant-loop-frame
invariant-loop-frame l = HasRead l.fn.frames.items l.frames.items l.bytes l.rest

abbrev pub decreases-loop-frame : goal.decreases-loop-frame
decreases-loop-frame l = length l.rest
