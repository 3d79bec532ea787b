-- The versions from a key on stand behind the front of that key.
use Rattle.std.proofs.Common.{◌≡◌, ℕ, suc, Bool, true, false, List, [], ◌∷◌, ◌++◌, take, drop, get_or, refl, sym, ap, ◌∙◌, subst, arith, drop-cons}
use Rattle.std.specs.Prelude.{filter}
use Rattle.std.specs.List.{AllByRecursion}
use Rattle.std.proofs.lemmas.List.{take-append-drop, get_or_default}
use Rattle.std.proofs.lemmas.List.Elements.{filter-append, recursion_from_All}
use Rattle.std.specs.declared.cmp.Ordering.{Ordering}
use Rattle.std.specs.declared.cmp.Ordering.TheVariants.{Less}
use Rattle.std.specs.Ordering.{is_ge, ordering_reverse}
use Rattle.std.proofs.lemmas.Cmp.{tied_itself}
use Rattle.am_version_order.specs.Versions.{Version}
use Rattle.am_merge.specs.Maps.{IsMap, from_key}
use Rattle.am_merge.specs.Places.{IsPlaceOf, IsGapFor}
use Rattle.am_merge.proofs.Keys.{IsKeyOrder, AreBelow, AreAbove, IsMap-without, all_weaker}
use Rattle.am_merge.proofs.Puts.{cut_at}

module _ {X : Type 0} (test : X → Bool) where
  filter_none : (xs : List X) → AllByRecursion (λ x. test x ≡ false) xs → filter test xs ≡ []
  filter_none [] none = refl
  filter_none (x ∷ xs) none = rw (none.0) (filter_none xs none.1)

  filter_all : (xs : List X) → AllByRecursion (λ x. test x ≡ true) xs → filter test xs ≡ xs
  filter_all [] all = refl
  filter_all (x ∷ xs) all = rw (all.0) (ap (λ ys. x ∷ ys) (filter_all xs all.1))

module _ {K X : Type 0} (seen : X → Version K) (cmp : K → K → Ordering) (keys : IsKeyOrder cmp) where
  abbrev reaches : K → X → Bool
  reaches key v = is_ge (cmp (seen v).key key)

  AreAbove-reach : (key : K) (xs : List X) → AreAbove seen cmp key xs → AllByRecursion (λ v. reaches key v ≡ true) xs
  AreAbove-reach key xs above = all_weaker (λ v. cmp key (seen v).key ≡ Less) (λ v. reaches key v ≡ true) (λ v less. ap is_ge (keys.total.antisymm (seen v).key key ∙ ap ordering_reverse less)) xs above

  parted : (key : K) (map front back : List X) → map ≡ front ++ back → AreBelow seen cmp key front → AllByRecursion (λ v. reaches key v ≡ true) back → back ≡ from_key seen cmp map key
  parted key map front back cut below rest =
      sym (ap (filter (reaches key)) cut
      ∙ filter-append (reaches key) front back
      ∙ ap (λ xs. xs ++ filter (reaches key) back) (filter_none (reaches key) front (all_weaker (λ v. cmp (seen v).key key ≡ Less) (λ v. reaches key v ≡ false) (λ v less. ap is_ge less) front below))
      ∙ filter_all (reaches key) back rest)

  -- from the key of a version on, a map has it and what stands behind it
  pub from_version : (front rest : List X) (w : X) → IsMap seen cmp (front ++ w ∷ rest) → from_key seen cmp (front ++ w ∷ rest) (seen w).key ≡ w ∷ rest
  from_version front rest w order =
      let around = (IsMap-without seen cmp keys w front rest order).1 in
      sym (parted (seen w).key (front ++ w ∷ rest) front (w ∷ rest) refl around.below (ap is_ge (tied_itself keys.total (seen w).key), AreAbove-reach (seen w).key rest around.above))

  place_by : (map : List X) (key : K) (i : ℕ) (d : X) → IsMap seen cmp map → IsPlaceOf seen cmp map key i → drop i map ≡ from_key seen cmp map key
  place_by map key i d order at =
      let w = get_or map i d in
      let is : w ≡ get_or map i w = get_or_default map i d w at.in_range in
      let cut = cut_at map i w at.in_range is in
      drop-cons map i w at.in_range
      ∙ ap (λ x. x ∷ drop (suc i) map) (sym is)
      ∙ sym (from_version (take i map) (drop (suc i) map) w (subst (IsMap seen cmp) cut order))
      ∙ ap (λ xs. from_key seen cmp xs (seen w).key) (sym cut)
      ∙ ap (from_key seen cmp map) (at.here d)

  -- from the place of the key's version on
  pub from_place : (map : List X) (key : K) (i : ℕ) → IsMap seen cmp map → IsPlaceOf seen cmp map key i → drop i map ≡ from_key seen cmp map key
  from_place [] key i order at = let low = at.in_range in absurd (omega arith)
  from_place (x ∷ xs) key i order at = place_by (x ∷ xs) key i x order at

  -- from the place on at which the key's version would stand
  pub from_gap : (map : List X) (key : K) (i : ℕ) → IsGapFor seen cmp map key i → drop i map ≡ from_key seen cmp map key
  from_gap map key i gap =
      parted key map (take i map) (drop i map) (sym (take-append-drop i map)) (recursion_from_All (λ v. cmp (seen v).key key ≡ Less) (take i map) gap.below)
      (AreAbove-reach key (drop i map) (recursion_from_All (λ v. cmp key (seen v).key ≡ Less) (drop i map) gap.above))
