use Rattle.std.proofs.Common.{◌≡◌, ℕ, Bool, List}
use Rattle.am_matcher.specs.Uses.{PatternsPass}
use Rattle.am_matcher.specs.Entries.{patterns_in, MarkedPass}
use Rattle.am_matcher.proofs.entries.mark_all.Given as goal

abbrev pub invariant-loop-matcher : goal.invariant-loop-matcher
invariant-loop-matcher l = record {
  same : patterns_in l.entries.items ≡ patterns_in l.fn.entries.items;
  rest : (test : List ℕ → Bool) → PatternsPass test l.fn.matchers → PatternsPass test l.matcher-iterator;
  used : (test : List ℕ → Bool) → PatternsPass test l.fn.matchers → MarkedPass test l.fn.entries.items → MarkedPass test l.entries.items;
}
