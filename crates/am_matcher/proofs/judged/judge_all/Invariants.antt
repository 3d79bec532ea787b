use Rattle.std.proofs.Common.{◌≡◌, ℕ, Bool, true, List, Any}
use Rattle.am_matcher.specs.Matching.{has_regexp}
use Rattle.am_matcher.specs.Dialects.{IsRefusedMatcher}
use Rattle.am_matcher.specs.Uses.{PatternsPass, TextsPass}
use Rattle.am_matcher.specs.declared.cache.CacheUse.TheVariants.{LookUp}
use Rattle.am_matcher.proofs.Meant.{Decides}
use Rattle.am_matcher.proofs.judged.judge_all.Given as goal

-- what is left decides
abbrev pub invariant-loop-matcher : goal.invariant-loop-matcher
invariant-loop-matcher l = record {
  answer : Decides l.dialect l.fn.matchers l.matcher-iterator l.labels l.all;
  broken : Any (IsRefusedMatcher l.dialect) l.matcher-iterator → Any (IsRefusedMatcher l.dialect) l.fn.matchers;
  failed : has_regexp l.matcher-iterator ≡ true → has_regexp l.fn.matchers ≡ true;
  same : l.cache_use ≡ LookUp → l.patterns ≡ l.fn.patterns;
  rest : (test : List ℕ → Bool) → PatternsPass test l.fn.matchers → PatternsPass test l.matcher-iterator;
  kept : (test : List ℕ → Bool) → PatternsPass test l.fn.matchers → TextsPass test l.fn.patterns → TextsPass test l.patterns;
}
