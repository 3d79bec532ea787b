-- The laws of joining, at one key and of whole maps.
use Rattle.std.proofs.Common.{◌≡◌, Bool, true, false, cond, List, [], ◌∷◌, Option, Some, None, refl, sym, ap, ◌∙◌, subst, ◌⊎◌, inl, inr, ⊎_elim}
use Rattle.std.specs.Prelude.{All, Contains}
use Rattle.std.proofs.lemmas.List.Elements.{recursion_from_All}
use Rattle.std.specs.declared.cmp.Ordering.{Ordering}
use Rattle.std.specs.declared.cmp.Ordering.TheVariants.{Less, Equal, Greater}
use Rattle.std.specs.Ordering.{eq_by_cmp, ordering_reverse}
use Rattle.am_version_order.specs.Versions.{Version, is_below}
use Rattle.am_version_order.proofs.Ranks.{below_itself, below_past, below_trans, tied}
use Rattle.am_merge.specs.Maps.{greater_of, IsMap, at, IsJoin}
use Rattle.am_merge.proofs.Keys.{IsKeyOrder, AreAbove, at-above, at-Some, at-Contains, below_further, eq_itself, same_key}
use Rattle.am_merge.proofs.Puts.{greater_of-none, at-member}

module _ {K X : Type 0} (seen : X → Version K) where
  -- where v isn't below w nor u below v, u isn't below w
  not_below : (u v w : X) (b : Bool) → is_below (seen u) (seen w) ≡ b → is_below (seen u) (seen v) ≡ false → is_below (seen v) (seen w) ≡ false → is_below (seen u) (seen w) ≡ false
  not_below u v w true less not_first not_second = let never = below_past (seen u) (seen v) (seen w) not_first less in cc
  not_below u v w false not_less not_first not_second = not_less

  assoc_by : (u v w : X) (a b : Bool) → is_below (seen u) (seen v) ≡ a → is_below (seen v) (seen w) ≡ b → greater_of seen (cond a (Some v) (Some u)) (Some w) ≡ greater_of seen (Some u) (cond b (Some w) (Some v))
  assoc_by u v w true true first second = rw (second, below_trans (seen u) (seen v) (seen w) first second) refl
  assoc_by u v w true false first second = rw (first, second) refl
  assoc_by u v w false true first second = refl
  assoc_by u v w false false first second = rw (first, not_below u v w (is_below (seen u) (seen w)) refl first second) refl

  pub greater_of-assoc : (a b c : Option X) → greater_of seen (greater_of seen a b) c ≡ greater_of seen a (greater_of seen b c)
  greater_of-assoc None b c = refl
  greater_of-assoc (Some u) None c = refl
  greater_of-assoc (Some u) (Some v) None = greater_of-none seen _
  greater_of-assoc (Some u) (Some v) (Some w) = assoc_by u v w (is_below (seen u) (seen v)) (is_below (seen v) (seen w)) refl refl

  comm_by : (v w : X) (a b : Bool) → is_below (seen v) (seen w) ≡ a → is_below (seen w) (seen v) ≡ b → (a ≡ false → b ≡ false → v ≡ w) → cond a (Some w) (Some v) ≡ cond b (Some v) (Some w)
  comm_by v w true true up down same = let around = below_trans (seen v) (seen w) (seen v) up down in let itself = below_itself (seen v) in cc
  comm_by v w true false up down same = refl
  comm_by v w false true up down same = refl
  comm_by v w false false up down same = ap Some (same refl refl)

  -- where two that tie are one
  pub greater_of-comm : (a b : Option X) → ((v w : X) → a ≡ Some v → b ≡ Some w → is_below (seen v) (seen w) ≡ false → is_below (seen w) (seen v) ≡ false → v ≡ w) → greater_of seen a b ≡ greater_of seen b a
  greater_of-comm None b same = sym (greater_of-none seen b)
  greater_of-comm (Some v) None same = refl
  greater_of-comm (Some v) (Some w) same = comm_by v w (is_below (seen v) (seen w)) (is_below (seen w) (seen v)) refl refl (λ not_up not_down. same v w refl refl not_up not_down)

  both_same : (b : Bool) (v : X) → cond b (Some v) (Some v) ≡ Some v
  both_same true v = refl
  both_same false v = refl

  pub greater_of-same : (a : Option X) → greater_of seen a a ≡ a
  greater_of-same None = refl
  greater_of-same (Some v) = both_same (is_below (seen v) (seen v)) v

  one_of : (b : Bool) (u v w : X) → cond b (Some v) (Some u) ≡ Some w → (Some u ≡ Some w) ⊎ (Some v ≡ Some w)
  one_of true u v w is = inr is
  one_of false u v w is = inl is

  from_greater : (w : X) (a b : Option X) → greater_of seen a b ≡ Some w → (a ≡ Some w) ⊎ (b ≡ Some w)
  from_greater w None b is = inr is
  from_greater w (Some u) None is = inl is
  from_greater w (Some u) (Some v) is = one_of (is_below (seen u) (seen v)) u v w is

  module _ (cmp : K → K → Ordering) where
    pub join_same : (a : List X) → IsJoin seen cmp a a a
    join_same a k = sym (greater_of-same (at seen cmp a k))

    pub join_left : (a b c ab bc abc : List X) → IsJoin seen cmp a b ab → IsJoin seen cmp b c bc → IsJoin seen cmp a bc abc → IsJoin seen cmp ab c abc
    join_left a b c ab bc abc first second whole k =
        whole k ∙ ap (λ o. greater_of seen (at seen cmp a k) o) (second k)
        ∙ sym (ap (λ o. greater_of seen o (at seen cmp c k)) (first k) ∙ greater_of-assoc (at seen cmp a k) (at seen cmp b k) (at seen cmp c k))

    pub join_right : (a b c ab bc abc : List X) → IsJoin seen cmp a b ab → IsJoin seen cmp b c bc → IsJoin seen cmp ab c abc → IsJoin seen cmp a bc abc
    join_right a b c ab bc abc first second whole k =
        whole k ∙ ap (λ o. greater_of seen o (at seen cmp c k)) (first k) ∙ greater_of-assoc (at seen cmp a k) (at seen cmp b k) (at seen cmp c k)
        ∙ sym (ap (λ o. greater_of seen (at seen cmp a k) o) (second k))

  module _ (cmp : K → K → Ordering) (keys : IsKeyOrder cmp) where
    -- what a map has at the key of its first version
    at-first : (x : X) (xs : List X) → at seen cmp (x ∷ xs) (seen x).key ≡ Some x
    at-first x xs = rw (eq_itself seen cmp keys (seen x).key) refl

    -- and at a key below it
    at-front : (k : K) (x : X) (xs : List X) → cmp k (seen x).key ≡ Less → AreAbove seen cmp (seen x).key xs → at seen cmp (x ∷ xs) k ≡ None
    at-front k x xs less above = at-above seen cmp keys (x ∷ xs) k (less, below_further seen cmp keys k (seen x).key xs less above)

    -- maps that have the same at each key begin with one version
    first_by : (x y : X) (xs ys : List X) → AreAbove seen cmp (seen x).key xs → AreAbove seen cmp (seen y).key ys → ((k : K) → at seen cmp (x ∷ xs) k ≡ at seen cmp (y ∷ ys) k) → (r : Ordering) → cmp (seen x).key (seen y).key ≡ r → x ≡ y
    first_by x y xs ys above below same Less e =
        let one = at-first x xs in
        let none = at-front (seen x).key y ys e below in
        let both = same (seen x).key in
        cc
    first_by x y xs ys above below same Equal e =
        let one = at-first x xs in
        let two : at seen cmp (y ∷ ys) (seen x).key ≡ Some y = ap (λ k. at seen cmp (y ∷ ys) k) (keys.exact (seen x).key (seen y).key e) ∙ at-first y ys in
        let both = same (seen x).key in
        cc
    first_by x y xs ys above below same Greater e =
        let one = at-first y ys in
        let none = at-front (seen y).key x xs (keys.total.antisymm (seen y).key (seen x).key ∙ ap ordering_reverse e) above in
        let both = same (seen y).key in
        cc

    -- and the same at each key after it
    rest_by : (x : X) (xs ys : List X) (k : K) (b : Bool) → eq_by_cmp cmp (seen x).key k ≡ b → AreAbove seen cmp (seen x).key xs → AreAbove seen cmp (seen x).key ys → cond b (Some x) (at seen cmp xs k) ≡ cond b (Some x) (at seen cmp ys k) → at seen cmp xs k ≡ at seen cmp ys k
    rest_by x xs ys k true e above below same =
        let key = same_key seen cmp keys (seen x).key k e in
        at-above seen cmp keys xs k (subst (λ j. AreAbove seen cmp j xs) key above) ∙ sym (at-above seen cmp keys ys k (subst (λ j. AreAbove seen cmp j ys) key below))
    rest_by x xs ys k false e above below same = same

    -- maps that have the same at each key are one
    pub same_map : (xs ys : List X) → IsMap seen cmp xs → IsMap seen cmp ys → ((k : K) → at seen cmp xs k ≡ at seen cmp ys k) → xs ≡ ys
    same_map [] [] map other same = refl
    same_map [] (y ∷ ys) map other same = let one = at-first y ys in let none = same (seen y).key in cc
    same_map (x ∷ xs) [] map other same = let one = at-first x xs in let none = same (seen x).key in cc
    same_map (x ∷ xs) (y ∷ ys) map other same =
        let first = first_by x y xs ys map.0 other.0 same (cmp (seen x).key (seen y).key) refl in
        let below : AreAbove seen cmp (seen x).key ys = subst (λ z. AreAbove seen cmp (seen z).key ys) (sym first) other.0 in
        let rest = same_map xs ys map.1 other.1 (λ k. rest_by x xs ys k (eq_by_cmp cmp (seen x).key k) refl map.0 below (same k ∙ ap (λ z. at seen cmp (z ∷ ys) k) (sym first))) in
        ap (λ z. z ∷ xs) first ∙ ap (λ zs. y ∷ zs) rest

    pub join_unique : (a b c d : List X) → IsMap seen cmp c → IsMap seen cmp d → IsJoin seen cmp a b c → IsJoin seen cmp a b d → c ≡ d
    join_unique a b c d is_c is_d first second = same_map c d is_c is_d (λ k. first k ∙ sym (second k))

    pub join_comm : (is_value : X → Type 0) → ((v w : X) → is_value v → is_value w → seen v ≡ seen w → v ≡ w) → (a b c : List X) → All is_value a → All is_value b → IsJoin seen cmp a b c → IsJoin seen cmp b a c
    join_comm is_value exact a b c all_a all_b join k =
        join k ∙ greater_of-comm (at seen cmp a k) (at seen cmp b k) (λ v w e f not_up not_down.
        let here = at-Some seen cmp keys is_value a k v (recursion_from_All is_value a all_a) e in
        let there = at-Some seen cmp keys is_value b k w (recursion_from_All is_value b all_b) f in
        exact v w here.1 there.1 (tied (seen v) (seen w) (here.0 ∙ sym there.0) not_up not_down))

    -- each version of a join is one of either map
    pub Contains-join : (map other joined : List X) (w : X) → IsMap seen cmp joined → IsJoin seen cmp map other joined → Contains joined w → Contains map w ⊎ Contains other w
    Contains-join map other joined w is_joined join member =
        let k = (seen w).key in
        let found = sym (join k) ∙ at-member seen cmp keys joined w is_joined member in
        ⊎_elim (λ here. inl (at-Contains seen cmp keys map k w here).1) (λ there. inr (at-Contains seen cmp keys other k w there).1) (from_greater w (at seen cmp map k) (at seen cmp other k) found)
