-- Sources that are read, one more.
use Rattle.std.proofs.Common.{◌≡◌, ℕ, ◌+◌, ◌<◌, ◌≤◌, ◌≢◌, List, [], ◌∷◌, ◌++◌, length, get_or, set, take, refl, sym, subst, ◌∙◌, get_or-set_other, get_or-set_same, arith}
use Rattle.std.specs.List.{AllZip}
use Rattle.std.proofs.lemmas.List.{take_all, take_more, length-append, length-set}
use Rattle.std.proofs.lemmas.List.Elements.{at_read}

pub zip_push : {A B : Type 0} (R : A → B → Type 0) (xs : List A) (ys : List B) (x : A) (y : B) → AllZip R xs ys → R x y → AllZip R (xs ++ x ∷ []) (ys ++ y ∷ [])
zip_push R [] [] x y all here = (here, tt)
zip_push R [] (z ∷ ys) x y all here = absurd all
zip_push R (w ∷ xs) [] x y all here = absurd all
zip_push R (w ∷ xs) (z ∷ ys) x y all here = (all.0, zip_push R xs ys x y all.1 here)

-- of the first lists the front is read, and the rest is as it was
pub record AreReadTo {A B : Type 0} (R : A → B → Type 0) (start now : List A) (count : ℕ) (sources : List B) : Type 0 where
  pub front : AllZip R (take count start) sources
  pub rest : (k : ℕ) (d : A) → count ≤ k → get_or now k d ≡ get_or start k d
  pub many : length now ≡ length start
  pub few : length sources ≡ count

pub none_read : {A B : Type 0} (R : A → B → Type 0) (start : List A) → AreReadTo R start start 0 []
none_read R start = record { front = tt; rest = λ k d _. refl; many = refl; few = refl }

module _ {A B : Type 0} (R : A → B → Type 0) (start now : List A) (i : ℕ) (sources : List B) (old new : A) (less : i < length now) (is : old ≡ get_or now i old)
    (before : AreReadTo R start now i sources) where
  first_was : get_or now i old ≡ get_or start i old
  first_was = before.rest i old (omega arith)

  more_front : (y : B) → R (get_or now i old) y → AllZip R (take (i + 1) start) (sources ++ y ∷ [])
  more_front y here =
      let within : i < length start = omega (arith, less, before.many) in
      subst (λ xs. AllZip R xs (sources ++ y ∷ [])) (sym (take_more start i old within))
      (zip_push R (take i start) sources (get_or start i old) y before.front (subst (λ x. R x y) first_was here))

  more_rest : (k : ℕ) (d : A) → i + 1 ≤ k → get_or (set now i new) k d ≡ get_or start k d
  more_rest k d more = let other : k ≢ i = omega arith in rw get_or-set_other (before.rest k d (omega arith))

  pub read_more : (y : B) → R (get_or now i old) y → AreReadTo R start (set now i new) (i + 1) (sources ++ y ∷ [])
  read_more y here = record {
    front = more_front y here;
    rest = more_rest;
    many = simp length-set before.many;
    few = omega (arith, length-append sources (y ∷ []), before.few);
  }

  -- the source at which it stops is the one of that number: those before it are read, and those behind it are as they were
  pub stops_there : (S : A → A → Type 0) (number : ℕ) → number ≡ length sources → S (get_or now i old) new
      → (number < length start) × AllZip R (take number start) sources × ((d : A) → S (get_or start number d) (get_or (set now i new) number d))
      × ((k : ℕ) (d : A) → number < k → get_or (set now i new) k d ≡ get_or start k d)
  stops_there S number is_number stops =
      let same : number ≡ i = is_number ∙ before.few in
      rw same (
        omega (arith, less, before.many),
        before.front,
        λ d.
            let here : get_or (set now i new) i d ≡ new = rw get_or-set_same in
            let there = at_read now (λ x. S x new) i old less is (subst (λ x. S x new) (sym is) stops) d in
            subst (λ x. S (get_or start i d) x) (sym here) (subst (λ x. S x new) (before.rest i d (omega arith)) there),
        λ k d later. more_rest k d (omega arith),
      )

-- all are read at the end
pub all_read : {A B : Type 0} (R : A → B → Type 0) (start now : List A) (i : ℕ) (sources : List B) → length now ≤ i → AreReadTo R start now i sources → AllZip R start sources
all_read R start now i sources past read =
    subst (λ xs. AllZip R xs sources) (take_all i start (omega (arith, read.many))) read.front
