-- Names in the order of their bytes, each once.
use Rattle.std.proofs.Common.{◌≡◌, ℕ, zero, suc, ◌+◌, ◌<◌, ◌≤◌, List, [], ◌∷◌, length, get_or, take, drop, Option, Some, None, Result, Ok, Err, ⊎_elim, refl, sym, ap, ◌∙◌, subst, arith, ◌↔◌, take-append-drop, get_or-take, get_or-drop, length-take, length-drop}
use Rattle.std.specs.Prelude.{IsPermutation, IfSome, true, false, Any, Contains, slice_get, insert}
use Rattle.std.specs.Result.{result_err}
use Rattle.std.specs.List.{All, IsAllAdjacentAnswer, remove}
use Rattle.std.specs.List.Sorted.{IsSorted, IsSearchInRange, IsBinarySearchResult, IsPartitionPoint}
use Rattle.std.specs.Ordering.{nat_cmp, is_lt, ordering_reverse}
use Rattle.std.specs.Cmp.Lexicographic.{slice_cmp}
use Rattle.std.specs.declared.cmp.Ordering.{Ordering}
use Rattle.std.specs.declared.cmp.Ordering.TheVariants.{Less, Equal, Greater}
use Rattle.std.proofs.lemmas.Bool.{cases_lt}
use Rattle.std.proofs.lemmas.Cmp.{nat_list_cmp_total, tied_itself}
use Rattle.std.proofs.lemmas.Map.Lookups.{exact_bytes}
use Rattle.std.proofs.lemmas.List.{get_or_default}
use Rattle.std.proofs.lemmas.Option.{slice_get-get_or}
use Rattle.std.proofs.lemmas.List.Edits.{length-insert, get_or-insert_at}
use Rattle.std.proofs.lemmas.List.Elements.{recursion_from_All}
use Rattle.std.proofs.lemmas.List.Sorted.{All-permutation, searchable_from_sorted, Contains-permutation, IsPermutation-sym, IsPermutation-trans, IsPermutation-cons, IsPermutation-insert, IsPermutation-middle, IsPermutation-remove}
use Rattle.am_version_order.specs.Versions.{Version}
use Rattle.am_merge.specs.Maps.{IsMap, HasTwice as TwoOfAKey}
use Rattle.am_merge.proofs.Keys.{IsKeyOrder, IsBetween, IsMap-insert, key_order}
use Rattle.am_merge.proofs.Twins.{twins_or_map}
use Rattle.am_instance.specs.Configs.{AreInOrder, AreMembers, HasTwice, IsEmptyName, IsLongName, IsMemberName}

abbrev name_cmp : List ℕ → List ℕ → Ordering
name_cmp = slice_cmp nat_cmp

-- a name as a version that is its own key
abbrev named : List ℕ → Version (List ℕ)
named name = record { key = name; updated = 0; expires = 0; content = [] }

name_order : IsKeyOrder name_cmp
name_order = key_order nat_list_cmp_total exact_bytes

order_from_map : (names : List (List ℕ)) → IsMap named name_cmp names → AreInOrder names
order_from_map [] map = tt
order_from_map (name ∷ names) map = (map.0, order_from_map names map.1)

map_from_order : (names : List (List ℕ)) → AreInOrder names → IsMap named name_cmp names
map_from_order [] order = tt
map_from_order (name ∷ names) order = (order.0, map_from_order names order.1)

twice_from_key : (names : List (List ℕ)) → TwoOfAKey named names → HasTwice names
twice_from_key names twins = record {
  name = twins.one;
  rest = twins.rest;
  among = subst (λ other. IsPermutation names (twins.one ∷ other ∷ twins.rest)) (sym twins.same_key) twins.among;
}

key_from_twice : (names : List (List ℕ)) → HasTwice names → TwoOfAKey named names
key_from_twice names twice = record { one = twice.name; other = twice.name; rest = twice.rest; same_key = refl; among = twice.among }

-- each name is below the next
rising : (names : List (List ℕ)) → AreInOrder names → (k : ℕ) (d : List ℕ) → k + 1 < length names → name_cmp (get_or names k d) (get_or names (k + 1) d) ≡ Less
rising [] order k d within = absurd (omega arith)
rising (x ∷ []) order k d within = absurd (omega arith)
rising (x ∷ y ∷ names) order zero d within = order.0.0
rising (x ∷ y ∷ names) order (suc k) d within =
    let next : suc (k + 1) ≡ suc k + 1 = omega arith in
    subst (λ i. name_cmp (get_or (y ∷ names) k d) (get_or (x ∷ y ∷ names) i d) ≡ Less) next (rising (y ∷ names) order.1 k d (omega arith))

above : (a b : List ℕ) → name_cmp a b ≡ Less → name_cmp b a ≡ Greater
above a b less = name_order.total.antisymm b a ∙ ap ordering_reverse less

below : (a b : List ℕ) → name_cmp a b ≡ Greater → name_cmp b a ≡ Less
below a b more = name_order.total.antisymm b a ∙ ap ordering_reverse more

sorted : (names : List (List ℕ)) → AreInOrder names → IsSorted name_cmp names
sorted names order = λ k d low within. ap is_lt (above (get_or names k d) (get_or names (k + 1) d) (rising names order k d within))

-- ---- names that were sorted

module _ (old names : List (List ℕ)) (moved : IsPermutation old names) where
  pub order_or_twice : IsSorted name_cmp names → (r : _) → IsAllAdjacentAnswer (λ a b r. r ≡ is_lt (name_cmp a b)) names r → (r ≡ true → AreInOrder names) × ((r ≡ false) ↔ HasTwice old)
  order_or_twice up r answer =
      let found = twins_or_map named name_cmp name_order old names moved up r answer in
      (λ yes. order_from_map names (found.0 yes), (λ no. twice_from_key old (found.1.0 no), λ twice. found.1.1 (key_from_twice old twice)))

  pub none_twice : AreInOrder names → HasTwice old → ⊥
  none_twice order twice =
      let found = twins_or_map named name_cmp name_order old names moved (sorted names order) true (λ k d within. ap is_lt (sym (rising names order k d within))) in
      let never : true ≡ false = found.1.1 (key_from_twice old twice) in
      cc

-- ---- one name more

pub twice_more : (x : List ℕ) (names : List (List ℕ)) → HasTwice names → HasTwice (x ∷ names)
twice_more x names twice =
    let n = twice.name in
    record {
      name = n;
      rest = x ∷ twice.rest;
      among = IsPermutation-trans (x ∷ names) (x ∷ n ∷ n ∷ twice.rest) (n ∷ n ∷ x ∷ twice.rest)
          (IsPermutation-cons x names (n ∷ n ∷ twice.rest) twice.among)
          (IsPermutation-sym (n ∷ n ∷ x ∷ twice.rest) (x ∷ n ∷ n ∷ twice.rest) (IsPermutation-middle (n ∷ n ∷ []) x twice.rest));
    }

pub twice_there : (x : List ℕ) (old names : List (List ℕ)) → IsPermutation old names → Contains names x → HasTwice (x ∷ old)
twice_there x old names moved there =
    let found = Contains-permutation names old x (IsPermutation-sym old names moved) there in
    record {
      name = x;
      rest = remove old found.0;
      among = IsPermutation-cons x old (x ∷ remove old found.0) (IsPermutation-remove old found.0 x found.1 (sym found.2));
    }

pub put_among : (x : List ℕ) (old names : List (List ℕ)) (i : ℕ) → IsPermutation old names → IsPermutation (x ∷ old) (insert names i x)
put_among x old names i moved = IsPermutation-trans (x ∷ old) (x ∷ names) (insert names i x) (IsPermutation-cons x old names moved) (IsPermutation-insert names i x)

pub put_at : (x : List ℕ) (names : List (List ℕ)) (i : ℕ) → i ≤ length names → slice_get (insert names i x) i ≡ Some x
put_at x names i within =
    let longer = length-insert names i x within in
    slice_get-get_or (insert names i x) i x (omega arith) ∙ ap (λ n. Some n) (get_or-insert_at names i x x within)

-- ---- where a search ends

module _ (x : List ℕ) (names : List (List ℕ)) (order : AreInOrder names) where
  apart : (i : ℕ) → IsPartitionPoint (λ n. name_cmp n x ≡ Less) (λ n. name_cmp n x ≡ Greater) names i → Contains names x → ⊥
  apart i parts there =
      let tie : name_cmp x x ≡ Equal = tied_itself name_order.total x in
      ⊎_elim
      (λ front. let less : name_cmp x x ≡ Less = subst (λ n. name_cmp n x ≡ Less) there.2 (parts.0 there.0 x (omega arith) front) in let never = sym less ∙ tie in cc)
      (λ back. let more : name_cmp x x ≡ Greater = subst (λ n. name_cmp n x ≡ Greater) there.2 (parts.1 there.0 x back there.1) in let never = sym more ∙ tie in cc)
      (cases_lt there.0 i)

  put_between : (i : ℕ) → i ≤ length names → IsPartitionPoint (λ n. name_cmp n x ≡ Less) (λ n. name_cmp n x ≡ Greater) names i → AreInOrder (insert names i x)
  put_between i within parts =
      let front : All (λ n. name_cmp n x ≡ Less) (take i names) = λ k d low.
      let short : k < i = omega (arith, length-take i names) in
      rw (get_or-take i names k d short) (parts.0 k d (omega arith) short) in
      let back : All (λ n. name_cmp x n ≡ Less) (drop i names) = λ k d low.
      let inside : i + k < length names = omega (arith, length-drop i names) in
      rw (get_or-drop i names k d) (below (get_or names (i + k) d) x (parts.1 (i + k) d (omega arith) inside)) in
      let between : IsBetween named name_cmp x (take i names) (drop i names) = record {
        below = recursion_from_All (λ n. name_cmp n x ≡ Less) (take i names) front;
        above = recursion_from_All (λ n. name_cmp x n ≡ Less) (drop i names) back;
      } in
      order_from_map (insert names i x)
      (IsMap-insert named name_cmp name_order x (take i names) (drop i names) (subst (IsMap named name_cmp) (sym (take-append-drop i names)) (map_from_order names order)) between)

  -- the place for a name, which is none where the name is there
  pub record IsPlaceFor (found : Option ℕ) : Type 0 where
    pub within : IfSome found (λ i. i ≤ length names)
    pub in_order : IfSome found (λ i. AreInOrder (insert names i x))
    pub there : (found ≡ None) ↔ Contains names x

  pub place_found : (r : Result ℕ ℕ) → IsSearchInRange r (length names) → IsBinarySearchResult (λ n. name_cmp n x) names r → IsPlaceFor (result_err r)
  place_found (Ok i) within tie = record { within = tt; in_order = tt; there = (λ _. (i, within, exact_bytes (get_or names i x) x (tie x)), λ _. refl) }
  place_found (Err i) within parted =
      let parts = parted (searchable_from_sorted name_order.total (λ n. n) names x (sorted names order)) in
      record { within = within; in_order = put_between i within parts; there = (λ none. absurd cc, λ there. absurd (apart i parts there)) }

-- ---- names of 1 to 255 bytes

-- none is empty, and none is long
sized_names : (names : List (List ℕ)) → (Any IsEmptyName names → ⊥) → (Any IsLongName names → ⊥) → All IsMemberName names
sized_names names no_empty no_long k d within =
    let name = get_or names k d in
    let there : get_or names k name ≡ name = get_or_default names k name d within in (
      ⊎_elim (λ less. less) (λ none. absurd (no_empty (k, name, within, there, omega (arith, none)))) (cases_lt 0 (length name)),
      ⊎_elim (λ more. absurd (no_long (k, name, within, there, more))) (λ short. short) (cases_lt 255 (length name)),
    )

-- the members of a configuration
pub members_of : (old names : List (List ℕ)) (own : ℕ) → (Any IsEmptyName old → ⊥) → (Any IsLongName old → ⊥) → IsPermutation old names → AreInOrder names → own < length names →
    AreMembers names own
members_of old names own no_empty no_long moved order within =
    record { order = order; sized = All-permutation IsMemberName old names moved (sized_names old no_empty no_long); there = within }

-- ---- a fact of some name

module _ {X : Type 0} (P : X → Type 0) (x : X) (xs : List X) where
  pub any_later : Any P xs → Any P (x ∷ xs)
  any_later found = (suc found.0, found.1, omega arith, found.3, found.4)

  any_from : ((y : X) → x ≡ y → P y → ⊥) → (k : ℕ) (y : X) → k < length (x ∷ xs) → get_or (x ∷ xs) k y ≡ y → P y → Any P xs
  any_from not_first zero y within is holds = absurd (not_first y is holds)
  any_from not_first (suc k) y within is holds = (k, y, omega arith, is, holds)

  pub any_tail : (P x → ⊥) → Any P (x ∷ xs) → Any P xs
  any_tail not_first found = any_from (λ y is holds. not_first (subst P (sym is) holds)) found.0 found.1 found.2 found.3 found.4
