use Rattle.std.proofs.Common.{◌≡◌}
use Rattle.am_backend.proofs.counting.count_frames.Given as goal

-- the counts of what isn't sent stay
abbrev pub invariant-loop-frame : goal.invariant-loop-frame
invariant-loop-frame l = (l.figures.unsent_memory ≡ l.fn.figures.unsent_memory) × (l.figures.unsent_limit ≡ l.fn.figures.unsent_limit)
