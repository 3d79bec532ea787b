use Rattle.std.proofs.Common.{take, string_bytes}
use Rattle.am_replay.specs.Playing.{PlaysAll}
use Rattle.am_replay.proofs.player.play_lines.Given as goal

abbrev pub invariant-loop-index : goal.invariant-loop-index
invariant-loop-index g l =
    PlaysAll l.fn.cluster (take l.index l.lines) l.cluster (string_bytes l.fn.out) (string_bytes l.out)
