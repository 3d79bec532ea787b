use Rattle.std.proofs.Common.{◌≡◌, [], take, All}
use Rattle.am_matcher.specs.Matching.{IsSoundMatcher, match_all}
use Rattle.am_matcher.proofs.judged.judge_each.Given as goal

-- those so far were judged
abbrev pub invariant-loop-matcher : goal.invariant-loop-matcher
invariant-loop-matcher l = record {
  answer : l.every ≡ match_all (take l.matcher-index l.matchers) [];
  sound : All IsSoundMatcher (take l.matcher-index l.matchers);
}
