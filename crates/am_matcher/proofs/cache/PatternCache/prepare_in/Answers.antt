use Rattle.std.proofs.Common.{◌≡◌, ℕ, List, true, sym, subst}
use Rattle.am_matcher.proofs.Keepings.{old_stay}
use Rattle.am_matcher.proofs.cache.PatternCache.prepare_in.Goals as goal

pub returns-in-Some-clause-old : goal.returns-in-Some-clause-old
returns-in-Some-clause-old c = old_stay c.args.self.now

pub returns-in_err-built-clause-old : goal.returns-in_err-built-clause-old
returns-in_err-built-clause-old c = old_stay c.args.self.now

pub returns-clause-kept : goal.returns-clause-kept
returns-clause-kept c = λ test passes pass.
    c.keep.ensures.kept test (subst (λ (t : List ℕ). test t ≡ true) (sym c.in_ok-built.ensures.text) passes) pass
