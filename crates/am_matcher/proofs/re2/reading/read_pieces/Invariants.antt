use Rattle.std.proofs.Common.{length}
use Rattle.am_matcher.proofs.Re2Readings.{Reads}
use Rattle.am_matcher.proofs.re2.reading.read_pieces.Given as goal

abbrev pub invariant-loop-left : goal.invariant-loop-left
invariant-loop-left l = Reads l.characters l.place l.left l.reading

abbrev pub decreases-loop-left : goal.decreases-loop-left
decreases-loop-left l = length l.left
