use Rattle.std.proofs.Common.{◌≡◌, take}
use Rattle.am_silence.proofs.matchers.Matchers.new.Given as goal

abbrev pub invariant-loop-matcher : goal.invariant-loop-matcher
invariant-loop-matcher l = l.copies ≡ take l.matcher-index l.matchers
