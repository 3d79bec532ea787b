use Rattle.std.proofs.Common.{◌≡◌, ◌+◌, ◌∙◌, List, All, Contains, false, ap, sym, subst, arith}
use Rattle.std.specs.Prelude.{insert}
use Rattle.am_matcher.specs.Sizes.{size_of, size_of_all}
use Rattle.am_matcher.specs.Uses.{TextsPass}
use Rattle.am_matcher.specs.Entries.{patterns_in}
use Rattle.am_matcher.specs.declared.entries.CacheEntry.{CacheEntry}
use Rattle.am_matcher.proofs.Keepings.{size_put, texts_put, old_put, old_stay}
use Rattle.am_matcher.proofs.cache.PatternCache.keep.Goals as goal

pub invariant_of-self-2 : goal.invariant_of-self-2
invariant_of-self-2 c =
    let entry : CacheEntry = record { kept = c.args.built; is_used = false } in
    let put : size_of_all (patterns_in c.insert.new.self.items) ≡ size_of_all (patterns_in c.self.inside.entries.items) + size_of c.args.built =
    ap (λ (es : List CacheEntry). size_of_all (patterns_in es)) c.in_ok-insert.ensures.items ∙ size_put c.self.inside.entries.items c.in-Err.place entry in
    (omega (arith, put, c.self.invariant.0, c.self.invariant.1, c.size-size.ensures, c.if-size-self.false), omega (arith, c.self.invariant.1, c.if-size-self.false))

pub returns-clause-size : goal.returns-clause-size
returns-clause-size c =
    let entry : CacheEntry = record { kept = c.args.built; is_used = false } in
    let put : size_of_all (patterns_in c.insert.new.self.items) ≡ size_of_all (patterns_in c.self.inside.entries.items) + size_of c.args.built =
    ap (λ (es : List CacheEntry). size_of_all (patterns_in es)) c.in_ok-insert.ensures.items ∙ size_put c.self.inside.entries.items c.in-Err.place entry in
    let was : size_of_all (patterns_in c.self.inside.entries.items) ≡ size_of_all c.args.self.now = ap size_of_all c.self.view_is in
    omega (arith, put, was, c.self.invariant.0, c.self.invariant.1, c.size-size.ensures, c.if-size-self.false)

pub returns-then-size-self-clause-old : goal.returns-then-size-self-clause-old
returns-then-size-self-clause-old c = old_stay _

pub returns-in_default-clause-old : goal.returns-in_default-clause-old
returns-in_default-clause-old c = old_stay _

pub returns-in_err-insert-clause-old : goal.returns-in_err-insert-clause-old
returns-in_err-insert-clause-old c =
    subst (λ (es : List CacheEntry). All (Contains (patterns_in es)) c.args.self.now) (sym c.in_err-insert.ensures.items)
    (subst (All (Contains (patterns_in c.self.inside.entries.items))) c.self.view_is (old_stay (patterns_in c.self.inside.entries.items)))

pub returns-clause-old : goal.returns-clause-old
returns-clause-old c =
    let entry : CacheEntry = record { kept = c.args.built; is_used = false } in
    subst (λ (es : List CacheEntry). All (Contains (patterns_in es)) c.args.self.now) (sym c.in_ok-insert.ensures.items)
    (subst (All (Contains (patterns_in (insert c.self.inside.entries.items c.in-Err.place entry)))) c.self.view_is (old_put c.self.inside.entries.items c.in-Err.place entry))

pub returns-clause-kept : goal.returns-clause-kept
returns-clause-kept c = λ test passes pass.
    let entry : CacheEntry = record { kept = c.args.built; is_used = false } in
    subst (λ (es : List CacheEntry). TextsPass test (patterns_in es)) (sym c.in_ok-insert.ensures.items)
    (texts_put test c.self.inside.entries.items c.in-Err.place entry passes (subst (TextsPass test) (sym c.self.view_is) pass))
