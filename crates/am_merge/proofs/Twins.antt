-- Sorted versions are a map, or two of them have one key.
use Rattle.std.proofs.Common.{◌≡◌, ℕ, ◌<◌, ◌≤◌, ◌+◌, suc, Bool, true, false, cond, List, [], ◌∷◌, length, get_or, refl, sym, ap, ◌∙◌, arith, ◌↔◌}
use Rattle.std.specs.Prelude.{IsPermutation}
use Rattle.std.specs.List.{remove, sum_by, AllAdjacentBelow, IsAllAdjacentAnswer}
use Rattle.std.specs.List.Sorted.{IsSortedBy}
use Rattle.std.proofs.lemmas.List.{get_or_default}
use Rattle.std.proofs.lemmas.List.Edits.{length-remove, get_or-remove_above}
use Rattle.std.proofs.lemmas.List.Sorted.{IsPermutation-trans, IsPermutation-sym, IsPermutation-cons, IsPermutation-remove, sum_by-IsPermutation}
use Rattle.std.proofs.lemmas.List.Sums.{sum_by-cons}
use Rattle.std.specs.declared.cmp.Ordering.{Ordering}
use Rattle.std.specs.declared.cmp.Ordering.TheVariants.{Less, Equal, Greater}
use Rattle.std.specs.Ordering.{is_lt, eq_by_cmp, ordering_reverse}
use Rattle.am_version_order.specs.Versions.{Version}
use Rattle.am_merge.specs.Maps.{IsMap, HasTwice}
use Rattle.am_merge.proofs.Keys.{IsKeyOrder, AreAbove, below_further, eq_itself, same_key, apart_back}

-- two neighbours of a list, and then the rest
neighbours : {X : Type 0} (xs : List X) (k : ℕ) (d : X) → k + 1 < length xs → IsPermutation xs (get_or xs k d ∷ get_or xs (k + 1) d ∷ remove (remove xs k) k)
neighbours xs k d within =
    let x = get_or xs k d in
    let y = get_or xs (k + 1) d in
    let shorter : length (remove xs k) + 1 ≡ length xs = length-remove xs k (omega arith) in
    let next : y ≡ get_or (remove xs k) k y = get_or_default xs (k + 1) d y within ∙ sym (get_or-remove_above xs k y k (omega arith) (omega arith)) in
    IsPermutation-trans _ _ _
    (IsPermutation-remove xs k x (omega arith) (get_or_default xs k d x (omega arith)))
    (IsPermutation-cons x (remove xs k) (y ∷ remove (remove xs k) k) (IsPermutation-remove (remove xs k) k y (omega arith) next))

-- an element of a list that has one
some_of : {X : Type 0} (xs : List X) (k : ℕ) → k < length xs → X
some_of [] k within = absurd (omega arith)
some_of (x ∷ xs) k within = x

lt_is : (o : Ordering) → true ≡ is_lt o → o ≡ Less
lt_is Less e = refl
lt_is Equal e = cc
lt_is Greater e = cc

module _ {K X : Type 0} (seen : X → Version K) (cmp : K → K → Ordering) (keys : IsKeyOrder cmp) where
  abbrev is_before : X → X → Bool
  is_before v w = is_lt (cmp (seen v).key (seen w).key)

  -- versions whose keys rise from each to the next are a map
  IsMap-adjacent : (xs : List X) → AllAdjacentBelow (λ v w. true ≡ is_before v w) xs (length xs) → IsMap seen cmp xs
  IsMap-adjacent [] rise = tt
  IsMap-adjacent (x ∷ []) rise = (tt, tt)
  IsMap-adjacent (x ∷ y ∷ xs) rise =
      let first : cmp (seen x).key (seen y).key ≡ Less = lt_is (cmp (seen x).key (seen y).key) (rise 0 x (omega arith)) in
      let rest : IsMap seen cmp (y ∷ xs) = IsMap-adjacent (y ∷ xs) (λ k d less.
      let next : suc k + 1 ≡ suc (k + 1) = omega arith in
      let here : true ≡ is_before (get_or (x ∷ y ∷ xs) (suc k) d) (get_or (x ∷ y ∷ xs) (suc k + 1) d) = rise (suc k) d (omega arith) in
      rw next at here) in
      ((first, below_further seen cmp keys (seen x).key (seen y).key xs first rest.0), rest)

  tied_by : (j k : K) (o : Ordering) → cmp j k ≡ o → is_lt o ≡ false → is_lt (cmp k j) ≡ false → j ≡ k
  tied_by j k Less e up down = cc
  tied_by j k Equal e up down = keys.exact j k e
  tied_by j k Greater e up down = let back = keys.total.antisymm k j ∙ ap ordering_reverse e in let test = ap is_lt back in cc

  -- at one key at most one version of a map is counted
  abbrev counted : K → X → ℕ
  counted k v = cond (eq_by_cmp cmp (seen v).key k) 1 0

  none_above : (k : K) (xs : List X) → AreAbove seen cmp k xs → sum_by (counted k) xs ≡ 0
  none_above k [] above = refl
  none_above k (x ∷ xs) above =
      let rest = none_above k xs above.1 in
      let here : counted k x ≡ 0 = ap (λ b. cond b 1 0) (apart_back seen cmp keys k (seen x).key above.0) in
      let both = sum_by-cons (counted k) x xs in
      omega arith

  one_by : (k : K) (x : X) (xs : List X) (b : Bool) → eq_by_cmp cmp (seen x).key k ≡ b → AreAbove seen cmp (seen x).key xs → sum_by (counted k) xs ≤ 1 → cond b 1 0 + sum_by (counted k) xs ≤ 1
  one_by k x xs true e above rest = let none = none_above k xs (rw (sym (same_key seen cmp keys (seen x).key k e)) above) in omega arith
  one_by k x xs false e above rest = omega arith

  at_most_one : (k : K) (xs : List X) → IsMap seen cmp xs → sum_by (counted k) xs ≤ 1
  at_most_one k [] map = omega arith
  at_most_one k (x ∷ xs) map =
      let both = sum_by-cons (counted k) x xs in
      let one = one_by k x xs (eq_by_cmp cmp (seen x).key k) refl map.0 (at_most_one k xs map.1) in
      omega arith

  none_twice : (versions xs : List X) → IsPermutation versions xs → IsMap seen cmp xs → HasTwice seen versions → ⊥
  none_twice versions xs moved map twins =
      let k = (seen twins.one).key in
      let same = sum_by-IsPermutation (counted k) xs (twins.one ∷ twins.other ∷ twins.rest) (IsPermutation-trans _ _ _ (IsPermutation-sym _ _ moved) twins.among) in
      let first = sum_by-cons (counted k) twins.one (twins.other ∷ twins.rest) in
      let second = sum_by-cons (counted k) twins.other twins.rest in
      let one : counted k twins.one ≡ 1 = ap (λ b. cond b 1 0) (eq_itself seen cmp keys k) in
      let other : counted k twins.other ≡ 1 = ap (λ j. cond (eq_by_cmp cmp j k) 1 0) (sym twins.same_key) ∙ one in
      let few = at_most_one k xs map in
      omega arith

  module _ (versions xs : List X) (moved : IsPermutation versions xs) (sorted : IsSortedBy is_before xs) where
    -- sorted versions of which two neighbours don't rise
    two_alike : (k : ℕ) (d : X) → k + 1 < length xs → is_before (get_or xs k d) (get_or xs (k + 1) d) ≡ false → HasTwice seen versions
    two_alike k d within level =
        record {
          one = get_or xs k d;
          other = get_or xs (k + 1) d;
          rest = remove (remove xs k) k;
          same_key = tied_by _ _ _ refl level (sorted k d (omega arith) within);
          among = IsPermutation-trans _ _ _ moved (neighbours xs k d within);
        }

    pub twins_or_map : (r : Bool) → IsAllAdjacentAnswer (λ v w b. b ≡ is_before v w) xs r → (r ≡ true → IsMap seen cmp xs) × ((r ≡ false) ↔ HasTwice seen versions)
    twins_or_map true rise = let map = IsMap-adjacent xs rise in (λ _. map, (λ no. absurd cc, λ twins. absurd (none_twice versions xs moved map twins)))
    twins_or_map false level = (λ yes. absurd cc, (λ _. let d = some_of xs (level.0 + 1) level.1 in two_alike level.0 d level.1 (sym (level.2 d)), λ _. refl))
