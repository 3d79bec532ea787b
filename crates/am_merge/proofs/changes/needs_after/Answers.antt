use Rattle.std.proofs.Common.{◌≡◌, ◌≢◌, ℕ, Bool, true, false, cond, refl, sym, ap, ◌∙◌}
use Rattle.std.specs.Prelude.{if◌then◌else◌}
use Rattle.std.specs.declared.cmp.Ordering.{Ordering}
use Rattle.std.specs.declared.cmp.Ordering.TheVariants.{Less, Equal, Greater}
use Rattle.std.specs.Ordering.{is_lt, is_ne}
use Rattle.am_version_order.specs.Versions.{Version, is_below, rank_cmp}
use Rattle.am_merge.specs.Maps.{replaces}
use Rattle.am_merge.specs.Stores.{versions}
use Rattle.am_merge.proofs.Keys.{key_order}
use Rattle.am_merge.proofs.Steps.{versions_over}
use Rattle.am_merge.proofs.changes.needs_after.Goals as goal
use mir.Val.{bool_byte}

byte_is : (b : Bool) → bool_byte b ≡ cond b 1 0
byte_is true = refl
byte_is false = refl

is_equal : (o : Ordering) → is_ne o ≡ false → o ≡ Equal
is_equal Less e = cc
is_equal Equal e = refl
is_equal Greater e = cc

-- what isn't 0 of 1 and 0 is 1
comes : (b : Bool) (n : ℕ) → n ≡ (if b then 1 else 0) → n ≢ 0 → b ≡ true
comes true n is e = refl
comes false n is e = absurd (e is)

below_is : {K : Type 0} (v w : Version K) (b : Bool) → b ≡ is_lt (rank_cmp v w) → b ≡ is_below v w
unfolding is_below
below_is v w b e = e

pub returns-clause-versions : goal.returns-clause-versions
returns-clause-versions g c map put =
    let tie = is_equal c.cmp.result (sym c.is_ne.ensures ∙ c.if-is_ne.false) in
    let key = sym c.key.ensures ∙ g.met.V.Version.exact_keys c.key.result.now c.key-2.result.now (sym c.cmp.ensures ∙ tie) ∙ c.key-2.ensures in
    let came = comes (replaces g.V.Version.seen g.V.Key.Ord.cmp (versions c.args.store.now) c.args.before.now) c.needs-came.result.1 c.needs-came.ensures.versions c.if-came-eq0.false in
    let lesser = below_is (g.V.Version.seen c.args.before.now) (g.V.Version.seen c.args.version.now) c.is_lt.result (c.is_lt.ensures ∙ ap is_lt c.compare.ensures) in
    c.from.ensures ∙ byte_is c.is_lt.result ∙ ap (λ b. cond b 1 0) lesser
    ∙ versions_over g.V.Version.seen g.V.Key.Ord.cmp (key_order g.met.V.Key.Ord.total g.met.V.Version.exact_keys) (versions c.args.store.now) map c.args.before.now c.args.version.now put key came
