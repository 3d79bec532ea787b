use Rattle.std.proofs.Common.{length}
use Rattle.am_matcher.proofs.re2.groups.+has_twice.Given as goal

abbrev pub decreases-has_twice : goal.decreases-has_twice
decreases-has_twice l = length l.letters.now
