-- Elements of lists by their places.
use Rattle.std.proofs.Common.{◌≡◌, ◌≢◌, ℕ, zero, suc, true, eqb, List, [], ◌∷◌, ◌++◌, Some, refl, ap, slice_get, length, set}
use Rattle.std.proofs.lemmas.Bool.{eq-eqb}

module _ {A : Type 0} where
  pub got_before : (xs ys : List A) (n : ℕ) (x : A) → slice_get xs n ≡ Some x → slice_get (xs ++ ys) n ≡ Some x
  got_before [] ys n x e = absurd cc
  got_before (y ∷ xs) ys zero x e = e
  got_before (y ∷ xs) ys (suc n) x e = got_before xs ys n x e

  pub set_length : (xs : List A) (n : ℕ) (x : A) → length (set xs n x) ≡ length xs
  set_length [] n x = refl
  set_length (y ∷ xs) zero x = refl
  set_length (y ∷ xs) (suc n) x = ap (λ k. suc k) (set_length xs n x)

  pub got_set : (xs : List A) (n : ℕ) (x y : A) → slice_get xs n ≡ Some y → slice_get (set xs n x) n ≡ Some x
  got_set [] n x y e = absurd cc
  got_set (z ∷ xs) zero x y e = refl
  got_set (z ∷ xs) (suc n) x y e = got_set xs n x y e

  pub got_other : (xs : List A) (n m : ℕ) (x : A) → n ≢ m → slice_get (set xs n x) m ≡ slice_get xs m
  got_other [] n m x other = refl
  got_other (z ∷ xs) zero zero x other = absurd (other refl)
  got_other (z ∷ xs) zero (suc m) x other = refl
  got_other (z ∷ xs) (suc n) zero x other = refl
  got_other (z ∷ xs) (suc n) (suc m) x other = got_other xs n m x (λ e. other (ap (λ k. suc k) e))

pub own_place : (n : ℕ) → eqb n n ≡ true
own_place n = eq-eqb n n refl

pub some_is : {A : Type 0} (x y : A) → Some x ≡ Some y → x ≡ y
some_is x y e = cc
