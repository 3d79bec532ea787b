use Rattle.std.proofs.Common.{◌≡◌, ◌++◌}
use Rattle.am_silence_json.proofs.cut.copied_matchers.Given as goal

-- with the matchers that are left, all are copied
abbrev pub invariant-loop-matcher : goal.invariant-loop-matcher
invariant-loop-matcher l = l.copies ++ l.matcher-iterator ≡ l.fn.matchers
