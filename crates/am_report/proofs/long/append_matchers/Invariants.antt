use Rattle.std.proofs.Common.{◌≡◌, ◌++◌, string_bytes}
use Rattle.am_report.specs.Lists.{behind_commas}
use Rattle.am_report.specs.Long.{matcher_word}
use Rattle.am_report.proofs.long.append_matchers.Given as goal

-- with the matchers that are left, all are appended
abbrev pub invariant-loop-matcher : goal.invariant-loop-matcher
invariant-loop-matcher l =
    string_bytes l.out ++ behind_commas matcher_word l.matcher-iterator ≡ string_bytes l.fn.out ++ behind_commas matcher_word l.fn.matchers
