-- Maps by their keys: lists cut at a key, and what a map has at one.
use Rattle.std.proofs.Common.{◌≡◌, Bool, true, false, cond, List, [], ◌∷◌, ◌++◌, Option, Some, None, refl, ap, ◌∙◌, subst}
use Rattle.std.specs.Prelude.{filter, Contains}
use Rattle.std.specs.List.{AllByRecursion}
use Rattle.std.specs.declared.cmp.Ordering.{Ordering}
use Rattle.std.specs.declared.cmp.Ordering.TheVariants.{Less, Equal}
use Rattle.std.specs.Ordering.{is_eq, eq_by_cmp, ordering_reverse}
use Rattle.std.specs.Cmp.{IsTotalOrder, Equal-is}
use Rattle.std.proofs.lemmas.Cmp.{tied_itself}
use Rattle.std.proofs.lemmas.List.Elements.{recursion_from_All, All-contains_itself}
use Rattle.am_version_order.specs.Versions.{Version}
use Rattle.am_merge.specs.Maps.{IsMap, at}

-- the order of the keys is total, and keys that tie are one
pub record IsKeyOrder {K : Type 0} (cmp : K → K → Ordering) : Type 0 where
  pub total : IsTotalOrder cmp
  pub exact : (j k : K) → cmp j k ≡ Equal → j ≡ k

pub key_order : {K : Type 0} {cmp : K → K → Ordering} → IsTotalOrder cmp → ((j k : K) → cmp j k ≡ Equal → j ≡ k) → IsKeyOrder cmp
key_order total exact = record { total = total; exact = exact }

-- what holds of each element of a list, by the list
module _ {X : Type 0} (P : X → Type 0) where
  pub both_parts : (xs ys : List X) → AllByRecursion P (xs ++ ys) → AllByRecursion P xs × AllByRecursion P ys
  both_parts [] ys all = (tt, all)
  both_parts (x ∷ xs) ys all = let rest = both_parts xs ys all.1 in ((all.0, rest.0), rest.1)

  pub all_joined : (xs ys : List X) → AllByRecursion P xs → AllByRecursion P ys → AllByRecursion P (xs ++ ys)
  all_joined [] ys front back = back
  all_joined (x ∷ xs) ys front back = (front.0, all_joined xs ys front.1 back)

  pub all_weaker : (Q : X → Type 0) → ((x : X) → P x → Q x) → (xs : List X) → AllByRecursion P xs → AllByRecursion Q xs
  all_weaker Q weaker [] all = tt
  all_weaker Q weaker (x ∷ xs) all = (weaker x all.0, all_weaker Q weaker xs all.1)

  pub all_filtered : (test : X → Bool) (xs : List X) → AllByRecursion P xs → AllByRecursion P (filter test xs)
  all_filtered test [] all = tt
  all_filtered test (x ∷ xs) all = kept (test x) x (filter test xs) all.0 (all_filtered test xs all.1) where
    kept : (b : Bool) (x : X) (ys : List X) → P x → AllByRecursion P ys → AllByRecursion P (cond b (x ∷ ys) ys)
    kept true x ys here rest = (here, rest)
    kept false x ys here rest = rest

module _ {K X : Type 0} (seen : X → Version K) (cmp : K → K → Ordering) where
  -- each version of the list has a key below k, or above it
  abbrev pub AreBelow : K → List X → Type 0
  AreBelow k xs = AllByRecursion (λ v. cmp (seen v).key k ≡ Less) xs

  abbrev pub AreAbove : K → List X → Type 0
  AreAbove k xs = AllByRecursion (λ v. cmp k (seen v).key ≡ Less) xs

  -- k is between the keys of two lists
  pub record IsBetween (k : K) (xs ys : List X) : Type 0 where
    pub below : AreBelow k xs
    pub above : AreAbove k ys

  module _ (keys : IsKeyOrder cmp) where
    pub same_key : (j k : K) → eq_by_cmp cmp j k ≡ true → j ≡ k
    same_key j k e = keys.exact j k ((Equal-is (cmp j k)).0 e)

    pub eq_itself : (k : K) → eq_by_cmp cmp k k ≡ true
    eq_itself k = ap is_eq (tied_itself keys.total k)

    apart : (j k : K) → cmp j k ≡ Less → eq_by_cmp cmp j k ≡ false
    apart j k less = ap is_eq less

    pub apart_back : (j k : K) → cmp j k ≡ Less → eq_by_cmp cmp k j ≡ false
    apart_back j k less = ap is_eq (keys.total.antisymm k j ∙ ap ordering_reverse less)

    -- a key that is above another isn't one that is not
    apart_from : (j l k : K) → cmp j l ≡ Less → eq_by_cmp cmp j k ≡ true → eq_by_cmp cmp l k ≡ false
    apart_from j l k less e = apart_back k l (subst (λ i. cmp i l ≡ Less) (same_key j k e) less)

    pub below_further : (j k : K) (xs : List X) → cmp j k ≡ Less → AreAbove k xs → AreAbove j xs
    below_further j k xs less above = all_weaker (λ v. cmp k (seen v).key ≡ Less) (λ v. cmp j (seen v).key ≡ Less) (λ v further. keys.total.trans j k (seen v).key less further) xs above

    -- a list has nothing at a key that is above its keys, or below them
    pub at-below : (xs : List X) (k : K) → AreBelow k xs → at seen cmp xs k ≡ None
    at-below [] k below = refl
    at-below (x ∷ xs) k below = rw (apart (seen x).key k below.0) (at-below xs k below.1)

    pub at-above : (xs : List X) (k : K) → AreAbove k xs → at seen cmp xs k ≡ None
    at-above [] k above = refl
    at-above (x ∷ xs) k above = rw (apart_back k (seen x).key above.0) (at-above xs k above.1)

    pub at-gap : (k : K) (xs ys : List X) → IsBetween k xs ys → at seen cmp (xs ++ ys) k ≡ None
    at-gap k [] ys between = at-above ys k between.above
    at-gap k (x ∷ xs) ys between = rw (apart (seen x).key k between.below.0) (at-gap k xs ys (record { below = between.below.1; above = between.above }))

    -- one version more, between the others
    first_of : (b e : Bool) (x w : X) (o p : Option X) → (b ≡ true → e ≡ false) → p ≡ cond e (Some w) o → cond b (Some x) p ≡ cond e (Some w) (cond b (Some x) o)
    first_of true true x w o p other same = let never = other refl in cc
    first_of true false x w o p other same = refl
    first_of false e x w o p other same = same

    pub at-between : (w : X) (xs ys : List X) (k : K) → AreBelow (seen w).key xs → at seen cmp (xs ++ w ∷ ys) k ≡ cond (eq_by_cmp cmp (seen w).key k) (Some w) (at seen cmp (xs ++ ys) k)
    at-between w [] ys k below = refl
    at-between w (x ∷ xs) ys k below = first_of (eq_by_cmp cmp (seen x).key k) (eq_by_cmp cmp (seen w).key k) x w _ _ (apart_from (seen x).key (seen w).key k below.0) (at-between w xs ys k below.1)

    -- a map stays one with a version more between the others, and with one less
    pub IsMap-insert : (w : X) (xs ys : List X) → IsMap seen cmp (xs ++ ys) → IsBetween (seen w).key xs ys → IsMap seen cmp (xs ++ w ∷ ys)
    IsMap-insert w [] ys map between = (between.above, map)
    IsMap-insert w (x ∷ xs) ys map between =
        let P : X → Type 0 = λ v. cmp (seen x).key (seen v).key ≡ Less in
        let parts = both_parts P xs ys map.0 in
        (all_joined P xs (w ∷ ys) parts.0 (between.below.0, parts.1), IsMap-insert w xs ys map.1 (record { below = between.below.1; above = between.above }))

    pub IsMap-without : (w : X) (xs ys : List X) → IsMap seen cmp (xs ++ w ∷ ys) → IsMap seen cmp (xs ++ ys) × IsBetween (seen w).key xs ys
    IsMap-without w [] ys map = (map.1, record { below = tt; above = map.0 })
    IsMap-without w (x ∷ xs) ys map =
        let P : X → Type 0 = λ v. cmp (seen x).key (seen v).key ≡ Less in
        let parts = both_parts P xs (w ∷ ys) map.0 in
        let rest = IsMap-without w xs ys map.1 in
        ((all_joined P xs ys parts.0 parts.1.1, rest.0), record { below = (parts.1.0, rest.1.below); above = rest.1.above })

    pub at-itself : (w : X) (xs ys : List X) → AreBelow (seen w).key xs → at seen cmp (xs ++ w ∷ ys) (seen w).key ≡ Some w
    at-itself w xs ys below = at-between w xs ys (seen w).key below ∙ ap (λ b. cond b (Some w) (at seen cmp (xs ++ ys) (seen w).key)) (eq_itself (seen w).key)

    -- what a map has at a key has that key, and what each of its versions has
    at_by : (P : X → Type 0) (x : X) (xs : List X) (k : K) (b : Bool) (v : X) → eq_by_cmp cmp (seen x).key k ≡ b → P x → (at seen cmp xs k ≡ Some v → ((seen v).key ≡ k) × P v) → cond b (Some x) (at seen cmp xs k) ≡ Some v → ((seen v).key ≡ k) × P v
    at_by P x xs k true v e here rest found = let same : x ≡ v = cc in subst (λ y. ((seen y).key ≡ k) × P y) same (same_key (seen x).key k e, here)
    at_by P x xs k false v e here rest found = rest found

    pub at-Some : (P : X → Type 0) (xs : List X) (k : K) (v : X) → AllByRecursion P xs → at seen cmp xs k ≡ Some v → ((seen v).key ≡ k) × P v
    at-Some P [] k v all found = cc
    at-Some P (x ∷ xs) k v all found = at_by P x xs k (eq_by_cmp cmp (seen x).key k) v refl all.0 (at-Some P xs k v all.1) found

    -- what a map has at a key is one of its versions
    pub at-Contains : (xs : List X) (k : K) (v : X) → at seen cmp xs k ≡ Some v → ((seen v).key ≡ k) × Contains xs v
    at-Contains xs k v found = at-Some (Contains xs) xs k v (recursion_from_All (Contains xs) xs (All-contains_itself xs)) found
