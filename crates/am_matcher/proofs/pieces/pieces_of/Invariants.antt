use Rattle.std.proofs.Common.{◌≡◌, ◌++◌, length}
use Rattle.am_matcher.specs.Filters.{pieces}
use Rattle.am_matcher.proofs.pieces.pieces_of.Given as goal

abbrev pub invariant-loop-piece : goal.invariant-loop-piece
invariant-loop-piece l = l.found.items ++ pieces l.left ≡ pieces l.written

abbrev pub decreases-loop-piece : goal.decreases-loop-piece
decreases-loop-piece l = length l.left
