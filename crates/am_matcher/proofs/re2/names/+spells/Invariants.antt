use Rattle.std.proofs.Common.{length}
use Rattle.am_matcher.proofs.re2.names.+spells.Given as goal

abbrev pub decreases-spells : goal.decreases-spells
decreases-spells l = length l.text.now
