-- Fields that come one after the other.
use Rattle.std.proofs.Common.{◌≡◌, ℕ, suc, ◌+◌, ◌-◌, ◌<◌, true, false, eqb, List, [], ◌∷◌, length, take, drop, length-drop, Result, Ok, Err, refl, sym, ap, arith}
use Rattle.std.proofs.lemmas.Bool.{eqb-true}
use Rattle.std.proofs.Math.Seq.{take-length}
use Rattle.am_wire.specs.declared.error.WireError.{WireError}
use Rattle.am_wire.specs.Fields.{next_piece, pieces}

module _ {A : Type 0} (front : ℕ → List ℕ → Result (A × ℕ) WireError) where
  pub pieces-nil : (at : ℕ) (bytes : List ℕ) → true ≡ eqb (length bytes) 0 → pieces front 0 at bytes ≡ []
  unfolding pieces
  pieces-nil at [] e = refl
  pieces-nil at (b ∷ bytes) e = let h : suc (length bytes) ≡ 0 = eqb-true _ _ (sym e) in absurd (omega (arith, h))

  -- after a fault nothing comes
  pub pieces-fault : (at : ℕ) (bytes : List ℕ) (e : WireError) → front at bytes ≡ Err e → false ≡ eqb (length bytes) 0 → pieces front 0 at bytes ≡ Err e ∷ pieces front 0 at []
  unfolding pieces
  pieces-fault at [] e h pos = absurd cc
  pieces-fault at (b ∷ bytes) e h pos = rw h refl

  -- bytes are at least one piece
  next-filled : (others : ℕ → List (Result A WireError)) (r : Result (A × ℕ) WireError) → 0 < length (next_piece others r)
  next-filled others (Ok x) = omega arith
  next-filled others (Err e) = omega arith

  pub pieces-filled : (at : ℕ) (bytes : List ℕ) → false ≡ eqb (length bytes) 0 → 0 < length (pieces front 0 at bytes)
  unfolding pieces
  pieces-filled at [] pos = absurd cc
  pieces-filled at (b ∷ bytes) pos = next-filled (λ skip. pieces front skip (at + 1) bytes) (front at (b ∷ bytes))

-- one item fewer is left
pub shorter : {A : Type 0} (now later : List A) (x : A) → now ≡ x ∷ later → length later < length now
shorter now later x e = let h : length now ≡ suc (length later) = ap length e in omega (arith, h)

-- `&bytes[k..]`
pub rest_is : (k : ℕ) (bytes : List ℕ) → take (length bytes - k) (drop k bytes) ≡ drop k bytes
rest_is k bytes = let e : length bytes - k ≡ length (drop k bytes) = sym (length-drop k bytes) in rw e (take-length (drop k bytes))
