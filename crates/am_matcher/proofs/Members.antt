-- Elements of lists.
use Rattle.std.proofs.Common.{◌≡◌, zero, suc, Bool, true, false, cond, ◌||◌, List, [], ◌∷◌, Some, All, Contains, filter, find, flat_map, map, refl, sym, ap, ◌∙◌, ◌⊎◌, inl, inr, ⊎_elim, arith}
use Rattle.std.specs.List.{list_any, list_all}
use Rattle.std.proofs.lemmas.List.{get_or-map, length-map}
use Rattle.std.proofs.lemmas.List.Elements.{All-nil, All-cons, All-contains, All-contains_itself, All-filter, filter_passes, Contains-append_left, Contains-append_right, Contains-append_cases}
use Rattle.std.proofs.lemmas.List.Folds.{list_any_at, list_all_at}

pub neither : (a b : Bool) → (a || b) ≡ false → (a ≡ false) × (b ≡ false)
neither true b e = absurd cc
neither false b e = (refl, e)

pub Contains-map : {X Y : Type 0} (f : X → Y) (xs : List X) (x : X) → Contains xs x → Contains (map f xs) (f x)
Contains-map f xs x (k, within, is) = (k, omega (arith, length-map xs f), get_or-map f xs k x (f x) within ∙ ap f is)

module _ {X : Type 0} where
  pub Contains-later : (x : X) (xs : List X) (m : X) → Contains xs m → Contains (x ∷ xs) m
  Contains-later x xs m (k, within, is) = (suc k, omega arith, is)

  pub first_or_later : (x : X) (xs : List X) (m : X) → Contains (x ∷ xs) m → (x ≡ m) ⊎ Contains xs m
  first_or_later x xs m (zero, within, is) = inl is
  first_or_later x xs m (suc k, within, is) = inr (k, omega arith, is)

  module _ (p : X → Bool) where
    first_kept : (b : Bool) (x m : X) (ys : List X) → b ≡ true → x ≡ m → Contains (cond b (x ∷ ys) ys) m
    first_kept true x m ys e same = (0, omega arith, same)
    first_kept false x m ys e same = absurd cc

    later_kept : (b : Bool) (x m : X) (ys : List X) → Contains ys m → Contains (cond b (x ∷ ys) ys) m
    later_kept true x m ys c = Contains-later x ys m c
    later_kept false x m ys c = c

    pub Contains-filter : (xs : List X) (m : X) → Contains xs m → p m ≡ true → Contains (filter p xs) m
    Contains-filter [] m (k, within, is) e = absurd (omega arith)
    Contains-filter (x ∷ xs) m c e = ⊎_elim (λ same. first_kept (p x) x m (filter p xs) (ap p same ∙ e) same) (λ later. later_kept (p x) x m (filter p xs) (Contains-filter xs m later e)) (first_or_later x xs m c)

    pub Contains-from_filter : (xs : List X) (m : X) → Contains (filter p xs) m → Contains xs m × (p m ≡ true)
    Contains-from_filter xs m c = (All-contains (Contains xs) (filter p xs) m (All-filter p (Contains xs) xs (All-contains_itself xs)) c, All-contains (λ x. p x ≡ true) (filter p xs) m (filter_passes p xs) c)

    found_by : (b : Bool) (x : X) (xs : List X) (m : X) → p x ≡ b → (find p xs ≡ Some m → Contains xs m × (p m ≡ true)) → cond b (Some x) (find p xs) ≡ Some m → Contains (x ∷ xs) m × (p m ≡ true)
    found_by true x xs m is rest e = let same : x ≡ m = cc in ((0, omega arith, same), ap p (sym same) ∙ is)
    found_by false x xs m is rest e = let later = rest e in (Contains-later x xs m later.0, later.1)

    -- what is found is an element, and passes
    pub Contains-find : (xs : List X) (m : X) → find p xs ≡ Some m → Contains xs m × (p m ≡ true)
    Contains-find [] m e = absurd cc
    Contains-find (x ∷ xs) m e = found_by (p x) x xs m refl (Contains-find xs m) e

    pub All-from_list_any : (xs : List X) → list_any p xs ≡ false → All (λ x. p x ≡ false) xs
    All-from_list_any [] e = All-nil (λ x. p x ≡ false)
    All-from_list_any (x ∷ xs) e = let both = neither (p x) (list_any p xs) e in All-cons (λ x. p x ≡ false) x xs both.0 (All-from_list_any xs both.1)

    pub list_any-from_Contains : (xs : List X) (m : X) → Contains xs m → p m ≡ true → list_any p xs ≡ true
    list_any-from_Contains xs m (k, within, is) e = list_any_at p xs k m within (ap p is ∙ e)

    pub list_all-from_Contains : (xs : List X) (m : X) → Contains xs m → p m ≡ false → list_all p xs ≡ false
    list_all-from_Contains xs m (k, within, is) e = list_all_at p xs k m within (ap p is ∙ e)

-- elements that are taken by one test after the other
module _ {X B : Type 0} (is_at : B → X → Bool) where
  either : (a b : Bool) → (a ≡ true) ⊎ (b ≡ true) → (a || b) ≡ true
  either true b e = refl
  either false b (inl e) = absurd cc
  either false b (inr e) = e

  one_of : (a b : Bool) → (a || b) ≡ true → (a ≡ true) ⊎ (b ≡ true)
  one_of true b e = inl refl
  one_of false b e = inr e

  pub Contains-from_each : (bs : List B) (xs : List X) (m : X) → Contains (flat_map (λ b. filter (is_at b) xs) bs) m → Contains xs m × (list_any (λ b. is_at b m) bs ≡ true)
  Contains-from_each [] xs m (k, within, is) = absurd (omega arith)
  Contains-from_each (b ∷ bs) xs m c = ⊎_elim
      (λ here. let both = Contains-from_filter (is_at b) xs m here in (both.0, either (is_at b m) (list_any (λ b. is_at b m) bs) (inl both.1)))
      (λ there. let both = Contains-from_each bs xs m there in (both.0, either (is_at b m) (list_any (λ b. is_at b m) bs) (inr both.1)))
      (Contains-append_cases (filter (is_at b) xs) (flat_map (λ b. filter (is_at b) xs) bs) m c)

  pub Contains-each : (bs : List B) (xs : List X) (m : X) → Contains xs m → list_any (λ b. is_at b m) bs ≡ true → Contains (flat_map (λ b. filter (is_at b) xs) bs) m
  Contains-each [] xs m c e = absurd cc
  Contains-each (b ∷ bs) xs m c e = ⊎_elim
      (λ here. Contains-append_left (filter (is_at b) xs) (flat_map (λ b. filter (is_at b) xs) bs) m (Contains-filter (is_at b) xs m c here))
      (λ there. Contains-append_right (filter (is_at b) xs) (flat_map (λ b. filter (is_at b) xs) bs) m (Contains-each bs xs m c there))
      (one_of (is_at b m) (list_any (λ b. is_at b m) bs) e)
