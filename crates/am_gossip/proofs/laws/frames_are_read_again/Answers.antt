use Rattle.std.proofs.Common.{sym}
use Rattle.am_gossip.proofs.Written.{frame_again, stream_again}
use Rattle.am_gossip.proofs.laws.frames_are_read_again.Goals as goal

pub returns-clause-frame : goal.returns-clause-frame
returns-clause-frame c = frame_again

pub returns-clause-stream : goal.returns-clause-stream
returns-clause-stream c = λ fs small. sym (stream_again fs small)
