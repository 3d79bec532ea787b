-- Pieces that follow one another.
use Rattle.std.proofs.Common.{◌≡◌, ℕ, zero, suc, ◌+◌, ◌-◌, ◌<◌, ◌≤◌, List, [], ◌∷◌, ◌++◌, length, map, drop, Result, Ok, refl, sym, ap, ◌∙◌}
use Rattle.std.proofs.Common.{length-append, arith}
use Rattle.std.proofs.lemmas.List.{drop_at}
use Rattle.std.proofs.Math.Seq.{drop-nil}
use Rattle.am_wire.specs.declared.error.WireError.{WireError}
use Rattle.am_wire.specs.Fields.{pieces}
use Rattle.am_wire.specs.Grammar.{AreSpelled}

-- the result of reading without a fault
abbrev pub done : {A : Type 0} → A → Result A WireError
done x = Ok x

module _ {A : Type 0} (front : ℕ → List ℕ → Result (A × ℕ) WireError) where
  -- bytes that are skipped are no part of the pieces to come
  pub pieces-skip : (skip at : ℕ) (bytes : List ℕ) → pieces front skip at bytes ≡ pieces front 0 (at + skip) (drop skip bytes)
  unfolding pieces
  pieces-skip skip at [] = simp drop-nil refl
  pieces-skip zero at (b ∷ bytes) = ap (λ (n : ℕ). pieces front 0 n (b ∷ bytes)) (omega arith)
  pieces-skip (suc skip) at (b ∷ bytes) = pieces-skip skip (at + 1) bytes ∙ ap (λ (n : ℕ). pieces front 0 n (drop skip bytes)) (omega arith)

  -- the first piece, and the others
  pub pieces-first : (at : ℕ) (bytes : List ℕ) (x : A × ℕ) → front at bytes ≡ Ok x → 0 < x.1 → x.1 ≤ length bytes
      → pieces front 0 at bytes ≡ Ok x.0 ∷ pieces front 0 (at + x.1) (drop x.1 bytes)
  unfolding pieces
  pieces-first at [] x e pos le = absurd (omega (arith, le, pos))
  pieces-first at (b ∷ bytes) x e pos le =
      let one : pieces front 0 at (b ∷ bytes) ≡ Ok x.0 ∷ pieces front (x.1 - 1) (at + 1) bytes = rw e refl in
      let k : x.1 ≡ suc (x.1 - 1) = omega arith in
      let two = pieces-skip (x.1 - 1) (at + 1) bytes in
      let place : at + 1 + (x.1 - 1) ≡ at + x.1 = omega arith in
      let rest : drop (x.1 - 1) bytes ≡ drop x.1 (b ∷ bytes) = sym (ap (λ (n : ℕ). drop n (b ∷ bytes)) k) in
      one ∙ ap (λ (r : List (Result A WireError)). Ok x.0 ∷ r) (two ∙ ap (λ (n : ℕ). pieces front 0 n (drop (x.1 - 1) bytes)) place
      ∙ ap (λ (r : List ℕ). pieces front 0 (at + x.1) r) rest)

-- `front` reads this item from its text, whatever follows
pub record Reads {A : Type 0} (front : ℕ → List ℕ → Result (A × ℕ) WireError) (x : A) (at : ℕ) (text : List ℕ) : Type 0 where
  pub filled : 0 < length text
  pub reads : (rest : List ℕ) → front at (text ++ rest) ≡ Ok (x, length text)

module _ {A : Type 0} (front : ℕ → List ℕ → Result (A × ℕ) WireError) where
  pub pieces-reads : (at : ℕ) (text rest : List ℕ) (x : A) → Reads front x at text
      → pieces front 0 at (text ++ rest) ≡ Ok x ∷ pieces front 0 (at + length text) rest
  pieces-reads at text rest x r =
      pieces-first front at (text ++ rest) (x, length text) (r.reads rest) r.filled (omega (arith, length-append text rest))
      ∙ ap (λ (bytes : List ℕ). Ok x ∷ pieces front 0 (at + length text) bytes) (drop_at text rest (length text) refl)

  -- if `front` reads each spelled item, it reads the pieces of a whole text
  pub pieces-spelled : (Spells : A → ℕ → List ℕ → Type 0) → ((x : A) (at : ℕ) (text : List ℕ) → Spells x at text → Reads front x at text)
      → (xs : List A) (at : ℕ) (bytes : List ℕ) → AreSpelled Spells xs at bytes → pieces front 0 at bytes ≡ map done xs
  unfolding pieces
  pieces-spelled Spells each [] at bytes is = ap (pieces front 0 at) is
  pieces-spelled Spells each (x ∷ xs) at bytes (text, rest, is, one, others) =
      ap (pieces front 0 at) is ∙ pieces-reads at text rest x (each x at text one)
      ∙ ap (λ (r : List (Result A WireError)). Ok x ∷ r) (pieces-spelled Spells each xs (at + length text) rest others)
