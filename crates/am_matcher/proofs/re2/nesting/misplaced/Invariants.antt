use Rattle.std.proofs.Common.{◌≡◌, Some, length}
use Rattle.am_matcher.specs.Re2Nesting.{at_end, before_all}
use Rattle.am_matcher.proofs.re2.nesting.misplaced.Given as goal

abbrev pub invariant-loop-part : goal.invariant-loop-part
invariant-loop-part l = before_all l.parts (Some at_end) ≡ before_all l.left (Some l.nesting)

abbrev pub decreases-loop-part : goal.decreases-loop-part
decreases-loop-part l = length l.left
