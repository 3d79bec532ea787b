-- The order of versions is total, and versions of one key that it doesn't tell apart are one version.
use Rattle.std.proofs.Common.{◌≡◌, ◌≢◌, ℕ, ◌<◌, ◌≤◌, true, false, refl, sym, ap, ◌∙◌, arith}
use Rattle.std.specs.declared.cmp.Ordering.{Ordering}
use Rattle.std.specs.declared.cmp.Ordering.TheVariants.{Less, Equal, Greater}
use Rattle.std.specs.Ordering.{nat_cmp, ordering_then, ordering_reverse, is_lt}
use Rattle.std.specs.Cmp.{IsTotalOrder}
use Rattle.std.proofs.lemmas.Cmp.{nat_cmp_total, nat_list_cmp_total, on_total, then_total, ranked, tied_itself}
use Rattle.std.proofs.lemmas.Map.Lookups.{exact_bytes}
use Rattle.am_version_order.specs.Versions.{Version, rank_cmp, is_below}

lt_is : (o : Ordering) → is_lt o ≡ true → o ≡ Less
lt_is Less h = refl
lt_is Equal h = cc
lt_is Greater h = cc

less_is : (o : Ordering) → o ≡ Less → is_lt o ≡ true
less_is o h = ap is_lt h

-- what holds of an order, for a rank that is not below another
module _ {X : Type 0} (R : X → X → Ordering) (total : IsTotalOrder R) where
  past : (g x v : X) (o : Ordering) → R g x ≡ o → is_lt o ≡ false → R g v ≡ Less → R x v ≡ Less
  past g x v Less e h l = cc
  past g x v Equal e h l = sym (total.congr g x v e) ∙ l
  past g x v Greater e h l = total.trans x g v (total.antisymm x g ∙ ap ordering_reverse e) l

  up : (v g h : X) (o : Ordering) → R h g ≡ o → is_lt o ≡ false → R v g ≡ Less → R v h ≡ Less
  up v g h Less e n l = cc
  up v g h Equal e n l = total.antisymm v h ∙ ap ordering_reverse (total.congr h g v e ∙ (total.antisymm g v ∙ ap ordering_reverse l))
  up v g h Greater e n l = total.trans v g h l (total.antisymm g h ∙ ap ordering_reverse e)

  tie : (v w : X) (o : Ordering) → R v w ≡ o → is_lt o ≡ false → is_lt (R w v) ≡ false → R v w ≡ Equal
  tie v w Less e h k = cc
  tie v w Equal e h k = e
  tie v w Greater e h k = let back : R w v ≡ Less = total.antisymm w v ∙ ap ordering_reverse e in cc (less_is (R w v) back)

then_equal : (a b : Ordering) → ordering_then a b ≡ Equal → (a ≡ Equal) × (b ≡ Equal)
then_equal Less b h = absurd cc
then_equal Equal b h = (refl, h)
then_equal Greater b h = absurd cc

then_less : (a b : Ordering) → ordering_then a b ≡ Less → a ≢ Greater
then_less Less b h e = cc
then_less Equal b h e = cc
then_less Greater b h e = cc

nat_equal : (a b : ℕ) → nat_cmp a b ≡ Equal → a ≡ b
nat_equal a b h = ranked a b Equal (sym h)

nat_up : (a b : ℕ) (o : Ordering) → o ≡ nat_cmp a b → o ≢ Greater → a ≤ b
nat_up a b Less e n = let h : a < b = ranked a b Less e in omega arith
nat_up a b Equal e n = let h : a ≡ b = ranked a b Equal e in omega arith
nat_up a b Greater e n = absurd (n refl)

module _ {K : Type 0} where
  -- the order is total
  pub rank_total : IsTotalOrder {K = Version K} rank_cmp
  rank_total = then_total (on_total (λ v. v.updated) nat_cmp_total) (then_total (on_total (λ v. v.expires) nat_cmp_total) (on_total (λ v. v.content) nat_list_cmp_total))

  pub below_itself : (v : Version K) → is_below v v ≡ false
  unfolding is_below
  below_itself v = ap is_lt (tied_itself rank_total v)

  -- what is above g is above all that is not above g
  pub below_past : (g x v : Version K) → is_below g x ≡ false → is_below g v ≡ true → is_below x v ≡ true
  unfolding is_below
  below_past g x v n l = less_is _ (past rank_cmp rank_total g x v (rank_cmp g x) refl n (lt_is _ l))

  -- what is below g is below all that is not below g
  pub below_up : (v g h : Version K) → is_below h g ≡ false → is_below v g ≡ true → is_below v h ≡ true
  unfolding is_below
  below_up v g h n l = less_is _ (up rank_cmp rank_total v g h (rank_cmp h g) refl n (lt_is _ l))

  pub below_trans : (u v w : Version K) → is_below u v ≡ true → is_below v w ≡ true → is_below u w ≡ true
  unfolding is_below
  below_trans u v w h l = less_is _ (rank_total.trans u v w (lt_is _ h) (lt_is _ l))

  pub below-updated : (v w : Version K) → is_below v w ≡ true → v.updated ≤ w.updated
  unfolding is_below
  below-updated v w l = nat_up v.updated w.updated (nat_cmp v.updated w.updated) refl (then_less _ _ (lt_is _ l))

  pub tied-expires : (v w : Version K) → is_below v w ≡ false → is_below w v ≡ false → v.expires ≡ w.expires
  unfolding is_below
  tied-expires v w n m =
      let e = tie rank_cmp rank_total v w (rank_cmp v w) refl n m in
      nat_equal _ _ (then_equal _ _ (then_equal _ _ e).1).0

  -- versions of one key that the order doesn't tell apart are one version
  pub rank_exact : (v w : Version K) → v.key ≡ w.key → rank_cmp v w ≡ Equal → v ≡ w
  rank_exact v w k e =
      let a = then_equal _ _ e in
      let b = then_equal _ _ a.1 in
      let u : v.updated ≡ w.updated = nat_equal _ _ a.0 in
      let x : v.expires ≡ w.expires = nat_equal _ _ b.0 in
      let c : v.content ≡ w.content = exact_bytes _ _ b.1 in
      λ i. record { key = k i; updated = u i; expires = x i; content = c i }

  -- nor are those that are not below one another two
  pub tied : (v w : Version K) → v.key ≡ w.key → is_below v w ≡ false → is_below w v ≡ false → v ≡ w
  unfolding is_below
  tied v w k n m = rank_exact v w k (tie rank_cmp rank_total v w (rank_cmp v w) refl n m)
