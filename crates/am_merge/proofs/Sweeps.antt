-- A map without the versions that aren't live, and where sweeping and joining change places.
use Rattle.std.proofs.Common.{◌≡◌, ℕ, ◌<◌, ◌↔◌, Bool, true, false, cond, List, [], ◌∷◌, Option, Some, None, refl, sym, ap, ◌∙◌, subst, arith, nat_lt}
use Rattle.std.proofs.lemmas.Bool.Decides.{nat_tests}
use Rattle.std.specs.Prelude.{filter}
use Rattle.std.specs.declared.cmp.Ordering.{Ordering}
use Rattle.std.specs.declared.cmp.Ordering.TheVariants.{Less}
use Rattle.std.specs.Ordering.{eq_by_cmp}
use Rattle.am_version_order.specs.Versions.{Version, is_below, is_live, IsLive}
use Rattle.am_version_order.proofs.Ranks.{below_itself, below_trans, tied-expires}
use Rattle.am_merge.specs.Maps.{greater_of, if_live, swept, IsMap, at, IsJoin, HidesNone}
use Rattle.am_merge.proofs.Keys.{IsKeyOrder, AreAbove, all_filtered, at-above, same_key}
use Rattle.am_merge.proofs.Puts.{greater_of-none}

module _ {K X : Type 0} (seen : X → Version K) (cmp : K → K → Ordering) where
  -- what passes a test is a map too
  first_kept : (b : Bool) (x : X) (xs : List X) → AreAbove seen cmp (seen x).key xs → IsMap seen cmp xs → IsMap seen cmp (cond b (x ∷ xs) xs)
  first_kept true x xs above map = (above, map)
  first_kept false x xs above map = map

  pub IsMap-filter : (test : X → Bool) (xs : List X) → IsMap seen cmp xs → IsMap seen cmp (filter test xs)
  IsMap-filter test [] map = tt
  IsMap-filter test (x ∷ xs) map = first_kept (test x) x (filter test xs) (all_filtered (λ w. cmp (seen x).key (seen w).key ≡ Less) test xs map.0) (IsMap-filter test xs map.1)

  module _ (keys : IsKeyOrder cmp) where
    if_live-cond : (now : ℕ) (x : X) (b : Bool) (o : Option X) → if_live seen now (cond b (Some x) o) ≡ cond b (if_live seen now (Some x)) (if_live seen now o)
    if_live-cond now x true o = refl
    if_live-cond now x false o = refl

    -- what a map has at a key once only the live ones are left
    swept_by : (now : ℕ) (x : X) (xs : List X) (k : K) (b live : Bool) → eq_by_cmp cmp (seen x).key k ≡ b → AreAbove seen cmp (seen x).key xs → at seen cmp (swept seen now xs) k ≡ if_live seen now (at seen cmp xs k) → at seen cmp (cond live (x ∷ swept seen now xs) (swept seen now xs)) k ≡ cond b (cond live (Some x) None) (if_live seen now (at seen cmp xs k))
    swept_by now x xs k true true e above rest = rw e refl
    swept_by now x xs k true false e above rest = at-above seen cmp keys (swept seen now xs) k (all_filtered (λ w. cmp k (seen w).key ≡ Less) (λ v. is_live now (seen v)) xs (subst (λ j. AreAbove seen cmp j xs) (same_key seen cmp keys (seen x).key k e) above))
    swept_by now x xs k false true e above rest = rw e rest
    swept_by now x xs k false false e above rest = rest

    pub at-swept : (now : ℕ) (xs : List X) (k : K) → IsMap seen cmp xs → at seen cmp (swept seen now xs) k ≡ if_live seen now (at seen cmp xs k)
    at-swept now [] k map = refl
    at-swept now (x ∷ xs) k map =
        swept_by now x xs k (eq_by_cmp cmp (seen x).key k) (is_live now (seen x)) refl map.0 (at-swept now xs k map.1)
        ∙ sym (if_live-cond now x (eq_by_cmp cmp (seen x).key k) (at seen cmp xs k))

module _ {K X : Type 0} (seen : X → Version K) (now : ℕ) where
  live_is : (v : Version K) → is_live now v ≡ true → IsLive now v
  live_is v e = let test : nat_lt now v.expires ≡ true = e in grind (arith, nat_tests)

  is_live-true : (v : Version K) → IsLive now v → is_live now v ≡ true
  is_live-true v live = let h : now < v.expires = live in grind (arith, nat_tests)

  -- a version that no live one is greater than is live itself
  outlives : (v w : Version K) (down : Bool) → is_below w v ≡ down → is_below v w ≡ false → (is_below w v ≡ true → IsLive now w → IsLive now v) → IsLive now w → IsLive now v
  outlives v w true e not_up hides live = hides e live
  outlives v w false e not_up hides live = let same = tied-expires v w not_up e in omega arith

  -- sweeping what is joined, at one key
  abbrev HidesNoneAt : Option X → Option X → Type 0
  HidesNoneAt a b = (v w : X) → a ≡ Some v → b ≡ Some w → is_below (seen v) (seen w) ≡ true → IsLive now (seen v) → IsLive now (seen w)

  live_by : (v w : X) (up l m : Bool) → is_below (seen v) (seen w) ≡ up → is_live now (seen v) ≡ l → is_live now (seen w) ≡ m → HidesNoneAt (Some v) (Some w) → HidesNoneAt (Some w) (Some v) → if_live seen now (cond up (Some w) (Some v)) ≡ greater_of seen (cond l (Some v) None) (cond m (Some w) None)
  live_by v w true true true up l m f g = rw (up, m) refl
  live_by v w true true false up l m f g = let live = is_live-true (seen w) (f v w refl refl up (live_is (seen v) l)) in cc
  live_by v w true false b up l m f g = rw m refl
  live_by v w false true true up l m f g = rw (up, l) refl
  live_by v w false true false up l m f g = rw l refl
  live_by v w false false true up l m f g = let live = is_live-true (seen v) (outlives (seen v) (seen w) (is_below (seen w) (seen v)) refl up (g w v refl refl) (live_is (seen w) m)) in cc
  live_by v w false false false up l m f g = rw l refl

  if_live-greater_of : (a b : Option X) → HidesNoneAt a b → HidesNoneAt b a → if_live seen now (greater_of seen a b) ≡ greater_of seen (if_live seen now a) (if_live seen now b)
  if_live-greater_of None b f g = refl
  if_live-greater_of (Some v) None f g = sym (greater_of-none seen _)
  if_live-greater_of (Some v) (Some w) f g = live_by v w (is_below (seen v) (seen w)) (is_live now (seen v)) (is_live now (seen w)) refl refl refl f g

  -- and only there
  abbrev SweptAlike : Option X → Option X → Type 0
  SweptAlike a b = if_live seen now (greater_of seen a b) ≡ greater_of seen (if_live seen now a) (if_live seen now b)

  shown_second : (v w : X) (m : Bool) → is_live now (seen w) ≡ m → is_below (seen v) (seen w) ≡ true → IsLive now (seen v) → SweptAlike (Some v) (Some w) → IsLive now (seen w)
  shown_second v w true e up live same = live_is (seen w) e
  shown_second v w false e up live same =
      let alive = is_live-true (seen v) live in
      let left : if_live seen now (greater_of seen (Some v) (Some w)) ≡ None = rw (up, e) refl in
      let right : greater_of seen (if_live seen now (Some v)) (if_live seen now (Some w)) ≡ Some v = rw (alive, e) refl in
      cc

  not_both : (v w : Version K) (up : Bool) → is_below v w ≡ up → is_below w v ≡ true → is_below v w ≡ false
  not_both v w true e down = let around = below_trans v w v e down in let itself = below_itself v in cc
  not_both v w false e down = e

  shown_first : (v w : X) (l : Bool) → is_live now (seen v) ≡ l → is_below (seen w) (seen v) ≡ true → IsLive now (seen w) → SweptAlike (Some v) (Some w) → IsLive now (seen v)
  shown_first v w true e down live same = live_is (seen v) e
  shown_first v w false e down live same =
      let alive = is_live-true (seen w) live in
      let not_up = not_both (seen v) (seen w) (is_below (seen v) (seen w)) refl down in
      let left : if_live seen now (greater_of seen (Some v) (Some w)) ≡ None = rw (not_up, e) refl in
      let right : greater_of seen (if_live seen now (Some v)) (if_live seen now (Some w)) ≡ Some w = rw (e, alive) refl in
      cc

  hides_none : (a b : Option X) → SweptAlike a b → HidesNoneAt a b × HidesNoneAt b a
  hides_none a b same = (
    λ v w e f up live. shown_second v w (is_live now (seen w)) refl up live (subst (λ o. SweptAlike (Some v) o) f (subst (λ o. SweptAlike o b) e same)),
    λ w v f e down live. shown_first v w (is_live now (seen v)) refl down live (subst (λ o. SweptAlike (Some v) o) f (subst (λ o. SweptAlike o b) e same)),
  )

  module _ (cmp : K → K → Ordering) (keys : IsKeyOrder cmp) (a b joined : List X) (is_a : IsMap seen cmp a) (is_b : IsMap seen cmp b) (is_joined : IsMap seen cmp joined) (join : IsJoin seen cmp a b joined) where
    after : (k : K) → at seen cmp (swept seen now joined) k ≡ if_live seen now (greater_of seen (at seen cmp a k) (at seen cmp b k))
    after k = at-swept seen cmp keys now joined k is_joined ∙ ap (if_live seen now) (join k)

    before : (k : K) → greater_of seen (at seen cmp (swept seen now a) k) (at seen cmp (swept seen now b) k) ≡ greater_of seen (if_live seen now (at seen cmp a k)) (if_live seen now (at seen cmp b k))
    before k = ap (λ o. greater_of seen o (at seen cmp (swept seen now b) k)) (at-swept seen cmp keys now a k is_a) ∙ ap (λ o. greater_of seen (if_live seen now (at seen cmp a k)) o) (at-swept seen cmp keys now b k is_b)

    pub swept_join : IsJoin seen cmp (swept seen now a) (swept seen now b) (swept seen now joined) ↔ (HidesNone seen cmp now a b × HidesNone seen cmp now b a)
    swept_join = (
      λ same. (λ k. (hides_none (at seen cmp a k) (at seen cmp b k) (sym (after k) ∙ same k ∙ before k)).0, λ k. (hides_none (at seen cmp a k) (at seen cmp b k) (sym (after k) ∙ same k ∙ before k)).1),
      λ hide k. after k ∙ if_live-greater_of (at seen cmp a k) (at seen cmp b k) (hide.0 k) (hide.1 k) ∙ sym (before k),
    )
