use Rattle.std.proofs.Common.{◌≡◌, ◌++◌, take}
use Rattle.std.specs.List.{flat_map}
use Rattle.am_gossip.specs.Frames.{frame_encoding}
use Rattle.am_peers.proofs.writing.append_frames.Given as goal

abbrev pub invariant-loop-frame : goal.invariant-loop-frame
invariant-loop-frame l = l.out.items ≡ l.initial.out.items ++ flat_map frame_encoding (take l.frame-index l.frames)
