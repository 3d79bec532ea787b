-- A step of a walk over several sources, to the least key that is left.
use Rattle.std.proofs.Common.{◌≡◌, ◌≢◌, ◌<◌, ◌≤◌, Bool, true, false, cond, ◌||◌, List, [], ◌∷◌, Option, Some, None, length, map, refl, sym, ap, ◌∙◌, subst, ◌⊎◌, inl, inr, arith}
use Rattle.std.specs.Prelude.{fold}
use Rattle.std.specs.List.{AllByRecursion, list_any}
use Rattle.std.specs.declared.cmp.Ordering.{Ordering}
use Rattle.std.specs.declared.cmp.Ordering.TheVariants.{Less, Equal, Greater}
use Rattle.std.specs.Ordering.{is_lt, is_eq, eq_by_cmp, ordering_reverse}
use Rattle.std.proofs.lemmas.Cmp.{tied_itself}
use Rattle.am_version_order.specs.Versions.{Version}
use Rattle.am_merge.specs.Maps.{IsMap, at}
use Rattle.am_merge.proofs.Keys.{IsKeyOrder, AreAbove, at-above, below_further, same_key, eq_itself}
use Rattle.am_report.specs.Sources.{MergeCursor, left_of_all, begins_at, first_at, behind, come_to}
use Rattle.am_report.specs.Walks.{head_of, lesser_of, least_of, StartsFrom}

module _ {K X : Type 0} (seen : X → Version K) (cmp : K → K → Ordering) (keys : IsKeyOrder cmp) where
  -- ---- the order of keys

  less_is : (r : Ordering) → is_lt r ≡ true → r ≡ Less
  less_is Less e = refl
  less_is Equal e = absurd cc
  less_is Greater e = absurd cc

  back : (j k : K) → cmp j k ≡ Greater → cmp k j ≡ Less
  back j k e = keys.total.antisymm k j ∙ ap ordering_reverse e

  -- w is before b, and not before v, so b isn't
  not_before : (w b v : K) → cmp w b ≡ Less → cmp w v ≢ Less → cmp b v ≢ Less
  not_before w b v less from = λ before. from (keys.total.trans w b v less before)

  -- w isn't before b, nor b before v
  not_before_by : (w b v : K) (r : Ordering) → cmp w b ≡ r → is_lt r ≡ false → cmp b v ≢ Less → cmp w v ≢ Less
  not_before_by w b v Less e test from = absurd cc
  not_before_by w b v Equal e test from = subst (λ k. cmp k v ≢ Less) (sym (keys.exact w b e)) from
  not_before_by w b v Greater e test from = λ before. from (keys.total.trans b w v (back w b e) before)

  above_by : (j k : K) (r : Ordering) → cmp j k ≡ r → is_eq r ≡ false → cmp j k ≢ Less → cmp k j ≡ Less
  above_by j k Less e test from = absurd (from e)
  above_by j k Equal e test from = absurd cc
  above_by j k Greater e test from = back j k e

  pub above : (j k : K) → eq_by_cmp cmp j k ≡ false → cmp j k ≢ Less → cmp k j ≡ Less
  above j k other from = above_by j k (cmp j k) refl other from

  -- ---- the least of the keys that come first

  step : Option X → MergeCursor X → Option X
  step least cursor = lesser_of seen cmp least (head_of cursor.left)

  none_of : (b : Bool) (v w : X) → cond b (Some w) (Some v) ≡ None → ⊥
  none_of true v w e = cc
  none_of false v w e = cc

  lesser_none : (best : Option X) (left : List X) → lesser_of seen cmp best (head_of left) ≡ None → (best ≡ None) × (left ≡ [])
  lesser_none None [] e = (refl, refl)
  lesser_none None (w ∷ rest) e = absurd cc
  lesser_none (Some v) [] e = absurd cc
  lesser_none (Some v) (w ∷ rest) e = absurd (none_of (is_lt (cmp (seen w).key (seen v).key)) v w e)

  none_left : (best : Option X) (sides : List (MergeCursor X)) → fold (λ least cursor. lesser_of seen cmp least (head_of cursor.left)) best sides ≡ None
      → (best ≡ None) × AllByRecursion (λ cursor. cursor.left ≡ []) sides
  none_left best [] e = (e, tt)
  none_left best (cursor ∷ sides) e =
      let rest = none_left (lesser_of seen cmp best (head_of cursor.left)) sides e in
      let here = lesser_none best cursor.left rest.0 in
      (here.0, (here.1, rest.1))

  pub nothing_left : (sides : List (MergeCursor X)) → least_of seen cmp sides ≡ None → AllByRecursion (λ cursor. cursor.left ≡ []) sides
  nothing_left sides e = (none_left None sides e).1

  -- the best so far isn't before v
  abbrev IsFrom : Option X → X → Type 0
  IsFrom None v = Unit {0}
  IsFrom (Some b) v = cmp (seen b).key (seen v).key ≢ Less

  from_both : (b w v : X) (t : Bool) → is_lt (cmp (seen w).key (seen b).key) ≡ t → IsFrom (cond t (Some w) (Some b)) v
      → (cmp (seen b).key (seen v).key ≢ Less) × (cmp (seen w).key (seen v).key ≢ Less)
  from_both b w v true e from = (not_before (seen w).key (seen b).key (seen v).key (less_is (cmp (seen w).key (seen b).key) e) from, from)
  from_both b w v false e from = (from, not_before_by (seen w).key (seen b).key (seen v).key (cmp (seen w).key (seen b).key) refl e from)

  from_parts : (best : Option X) (left : List X) (v : X) → IsFrom (lesser_of seen cmp best (head_of left)) v → IsFrom best v × StartsFrom seen cmp (seen v).key left
  from_parts None [] v from = (tt, tt)
  from_parts None (w ∷ rest) v from = (tt, from)
  from_parts (Some b) [] v from = (from, tt)
  from_parts (Some b) (w ∷ rest) v from = from_both b w v (is_lt (cmp (seen w).key (seen b).key)) refl from

  one_of : (t : Bool) (b w v : X) → cond t (Some w) (Some b) ≡ Some v → (b ≡ v) ⊎ (w ≡ v)
  one_of true b w v e = inr cc
  one_of false b w v e = inl cc

  itself : (w v : X) (rest : List X) → w ≡ v → begins_at seen cmp (seen v).key (w ∷ rest) ≡ true
  itself w v rest e = subst (λ x. eq_by_cmp cmp (seen x).key (seen v).key ≡ true) (sym e) (eq_itself seen cmp keys (seen v).key)

  is_first : (best : Option X) (left : List X) (v : X) → lesser_of seen cmp best (head_of left) ≡ Some v → (best ≡ Some v) ⊎ (begins_at seen cmp (seen v).key left ≡ true)
  is_first None [] v e = inl e
  is_first None (w ∷ rest) v e = inr (itself w v rest cc)
  is_first (Some b) [] v e = inl e
  is_first (Some b) (w ∷ rest) v e =
      elim (one_of (is_lt (cmp (seen w).key (seen b).key)) b w v e) [
        | inl is ↦ inl (ap Some is)
        | inr is ↦ inr (itself w v rest is)
      ]

  or_left : (a b : Bool) → a ≡ true → (a || b) ≡ true
  or_left true b e = refl
  or_left false b e = cc

  or_right : (a b : Bool) → b ≡ true → (a || b) ≡ true
  or_right true b e = refl
  or_right false b e = e

  some_left : (best : Option X) (sides : List (MergeCursor X)) (v : X) → fold (λ least cursor. lesser_of seen cmp least (head_of cursor.left)) best sides ≡ Some v
      → IsFrom best v × ((best ≡ Some v) ⊎ (list_any (λ cursor. begins_at seen cmp (seen v).key cursor.left) sides ≡ true))
      × AllByRecursion (λ cursor. StartsFrom seen cmp (seen v).key cursor.left) sides
  some_left best [] v e =
      let tied : cmp (seen v).key (seen v).key ≢ Less = let t = tied_itself keys.total (seen v).key in λ less. cc in
      (subst (λ o. IsFrom o v) (sym e) tied, inl e, tt)
  some_left best (cursor ∷ sides) v e =
      let rest = some_left (lesser_of seen cmp best (head_of cursor.left)) sides v e in
      let here = from_parts best cursor.left v rest.0 in
      let any = list_any (λ s. begins_at seen cmp (seen v).key s.left) sides in (
        here.0,
        elim rest.1 [
          | inl is ↦ elim (is_first best cursor.left v is) [
            | inl best_is ↦ inl best_is
            | inr first ↦ inr (or_left (begins_at seen cmp (seen v).key cursor.left) any first)
          ]
          | inr later ↦ inr (or_right (begins_at seen cmp (seen v).key cursor.left) any later)
        ],
        (here.1, rest.2),
      )

  pub least_left : (sides : List (MergeCursor X)) (v : X) → least_of seen cmp sides ≡ Some v → AllByRecursion (λ cursor. StartsFrom seen cmp (seen v).key cursor.left) sides
  least_left sides v e = (some_left None sides v e).2

  pub first_left : (sides : List (MergeCursor X)) (v : X) → least_of seen cmp sides ≡ Some v → list_any (λ cursor. begins_at seen cmp (seen v).key cursor.left) sides ≡ true
  first_left sides v e =
      elim (some_left None sides v e).1 [
        | inl never ↦ absurd cc
        | inr any ↦ any
      ]

  -- ---- what is at the key, and behind it

  all_above : (v : X) (rest : List X) (key : K) → IsMap seen cmp (v ∷ rest) → cmp key (seen v).key ≡ Less → AreAbove seen cmp key (v ∷ rest)
  all_above v rest key is_map less = (less, below_further seen cmp keys key (seen v).key rest less is_map.0)

  one_or : (b : Bool) (v : X) (o : Option X) → (b ≡ false → o ≡ None) → cond b (Some v) None ≡ cond b (Some v) o
  one_or true v o none = refl
  one_or false v o none = sym (none refl)

  pub first_is_at : (key : K) (left : List X) → IsMap seen cmp left → StartsFrom seen cmp key left → first_at seen cmp key left ≡ at seen cmp left key
  first_is_at key [] is_map from = refl
  first_is_at key (v ∷ rest) is_map from =
      one_or (eq_by_cmp cmp (seen v).key key) v (at seen cmp rest key)
      (λ other. at-above seen cmp keys rest key (below_further seen cmp keys key (seen v).key rest (above (seen v).key key other from) is_map.0))

  behind_by : (key : K) (v : X) (rest : List X) (b : Bool) → eq_by_cmp cmp (seen v).key key ≡ b → IsMap seen cmp (v ∷ rest) → cmp (seen v).key key ≢ Less
      → IsMap seen cmp (cond b rest (v ∷ rest)) × AreAbove seen cmp key (cond b rest (v ∷ rest))
  behind_by key v rest true e is_map from = (is_map.1, subst (λ k. AreAbove seen cmp k rest) (same_key seen cmp keys (seen v).key key e) is_map.0)
  behind_by key v rest false e is_map from = (is_map, all_above v rest key is_map (above (seen v).key key e from))

  pub behind_above : (key : K) (left : List X) → IsMap seen cmp left → StartsFrom seen cmp key left
      → IsMap seen cmp (behind seen cmp key left) × AreAbove seen cmp key (behind seen cmp key left)
  behind_above key [] is_map from = (tt, tt)
  behind_above key (v ∷ rest) is_map from = behind_by key v rest (eq_by_cmp cmp (seen v).key key) refl is_map from

  past : (key k : K) (v : X) (rest : List X) (b : Bool) → eq_by_cmp cmp (seen v).key key ≡ b → eq_by_cmp cmp key k ≡ false → at seen cmp (cond b rest (v ∷ rest)) k ≡ at seen cmp (v ∷ rest) k
  past key k v rest true e other =
      let apart : eq_by_cmp cmp (seen v).key k ≡ false = subst (λ j. eq_by_cmp cmp j k ≡ false) (sym (same_key seen cmp keys (seen v).key key e)) other in
      rw apart refl
  past key k v rest false e other = refl

  pub at-behind : (key k : K) (left : List X) → eq_by_cmp cmp key k ≡ false → at seen cmp (behind seen cmp key left) k ≡ at seen cmp left k
  at-behind key k [] other = refl
  at-behind key k (v ∷ rest) other = past key k v rest (eq_by_cmp cmp (seen v).key key) refl other

  -- ---- less is left

  shorter_by : (b : Bool) (v : X) (rest : List X) → (length (cond b rest (v ∷ rest)) ≤ length (v ∷ rest)) × (b ≡ true → length (cond b rest (v ∷ rest)) < length (v ∷ rest))
  shorter_by true v rest = (omega arith, λ e. omega arith)
  shorter_by false v rest = (omega arith, λ e. absurd cc)

  shorter : (key : K) (left : List X) → (length (behind seen cmp key left) ≤ length left) × (begins_at seen cmp key left ≡ true → length (behind seen cmp key left) < length left)
  shorter key [] = (omega arith, λ e. absurd cc)
  shorter key (v ∷ rest) = shorter_by (eq_by_cmp cmp (seen v).key key) v rest

  no_more : (key : K) (sides : List (MergeCursor X)) → left_of_all (map (come_to seen cmp key) sides) ≤ left_of_all sides
  no_more key [] = omega arith
  no_more key (cursor ∷ sides) = let here = (shorter key cursor.left).0 in let rest = no_more key sides in omega arith

  or_cases : (a b : Bool) → (a || b) ≡ true → (a ≡ true) ⊎ (b ≡ true)
  or_cases true b e = inl refl
  or_cases false b e = inr e

  pub fewer_left : (key : K) (sides : List (MergeCursor X)) → list_any (λ cursor. begins_at seen cmp key cursor.left) sides ≡ true → left_of_all (map (come_to seen cmp key) sides) < left_of_all sides
  fewer_left key [] e = absurd cc
  fewer_left key (cursor ∷ sides) e =
      elim (or_cases (begins_at seen cmp key cursor.left) (list_any (λ s. begins_at seen cmp key s.left) sides) e) [
        | inl here ↦ let less = (shorter key cursor.left).1 here in let rest = no_more key sides in omega arith
        | inr later ↦ let less = (shorter key cursor.left).0 in let rest = fewer_left key sides later in omega arith
      ]
