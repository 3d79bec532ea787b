-- Searches that stop before a field.
use Rattle.std.proofs.Common.{◌≡◌, Bool, ℕ, zero, suc, ◌+◌, ◌-◌, List, [], ◌∷◌, drop, Result, Ok, Err, refl, sym, ap, ◌∙◌, arith}
use Rattle.std.proofs.lemmas.List.{drop-drop}
use Rattle.am_wire.specs.declared.error.WireError.{WireError}
use Rattle.am_wire.specs.declared.value.WireType.{WireType}
use Rattle.am_wire.specs.Fields.{FieldAt, field_at, fields_of, next_piece, pieces}
use Rattle.am_wire.proofs.Found.{field_found, ok}

-- the pieces behind the rest of one
skipped : {A : Type 0} (front : ℕ → List ℕ → Result (A × ℕ) WireError) (skip at : ℕ) (bytes : List ℕ)
    → pieces front skip at bytes ≡ pieces front 0 (at + skip) (drop skip bytes)
unfolding pieces
skipped front zero at [] = refl
skipped front (suc skip) at [] = refl
skipped front zero at (b ∷ bytes) =
    let same : at ≡ at + 0 = omega arith in
    ap (λ (n : ℕ). pieces front 0 n (b ∷ bytes)) same
skipped front (suc skip) at (b ∷ bytes) =
    let same : at + 1 + skip ≡ at + suc skip = omega arith in
    skipped front skip (at + 1) bytes ∙ ap (λ (n : ℕ). pieces front 0 n (drop skip bytes)) same

-- the first piece, and those behind it
parted : {A : Type 0} (others : ℕ → List (Result A WireError)) (r : Result (A × ℕ) WireError) (x : A) (rest : List (Result A WireError))
    → next_piece others r ≡ ok x ∷ rest → (y : A × ℕ) × (r ≡ Ok y) × (y.0 ≡ x) × (rest ≡ others (y.1 - 1))
parted others (Ok y) x rest h = (y, refl, cc, cc)
parted others (Err e) x rest h = absurd cc

-- the first field begins where the bytes do, and the others are the fields of the bytes behind it
pub parts : (fits : ℕ → WireType → Bool) (at : ℕ) (bytes : List ℕ) (e : FieldAt) (rest : List (Result FieldAt WireError))
    → fields_of fits at bytes ≡ ok e ∷ rest → (n : ℕ) × (e.at ≡ at) × (rest ≡ fields_of fits (at + n) (drop n bytes))
unfolding pieces
parts fits at [] e rest h = absurd cc
parts fits at (b ∷ bytes) e rest h =
    let f = parted (λ skip. pieces (field_at fits) skip (at + 1) bytes) (field_at fits at (b ∷ bytes)) e rest h in
    let is = field_found fits at (b ∷ bytes) f.0 f.1 in
    let skip : ℕ = f.0.1 - 1 in
    let same : at + 1 + skip ≡ at + suc skip = omega arith in (
      suc skip,
      sym (ap (λ (x : FieldAt). x.at) f.2) ∙ is.says.0.at_is,
      f.3 ∙ skipped (field_at fits) skip (at + 1) bytes ∙ ap (λ (n : ℕ). fields_of fits n (drop skip bytes)) same,
    )

-- these are the fields of the states from an offset on
abbrev pub IsPlaced : (ℕ → WireType → Bool) → List ℕ → List (Result FieldAt WireError) → Type 0
IsPlaced fits states fields = (at : ℕ) × (fields ≡ fields_of fits at (drop at states))

-- that offset is the one of the first of them
pub here : (fits : ℕ → WireType → Bool) (states : List ℕ) (fields rest : List (Result FieldAt WireError)) (e : FieldAt)
    → IsPlaced fits states fields → fields ≡ ok e ∷ rest → fields ≡ fields_of fits e.at (drop e.at states)
here fits states fields rest e (at, is) more =
    let p = parts fits at (drop at states) e rest (sym is ∙ more) in
    is ∙ ap (λ (n : ℕ). fields_of fits n (drop n states)) (sym p.1)

-- and so are those behind it
pub further : (fits : ℕ → WireType → Bool) (states : List ℕ) (fields rest : List (Result FieldAt WireError)) (e : FieldAt)
    → IsPlaced fits states fields → fields ≡ ok e ∷ rest → IsPlaced fits states rest
further fits states fields rest e (at, is) more =
    let p = parts fits at (drop at states) e rest (sym is ∙ more) in
    (at + p.0, p.2 ∙ ap (λ (bytes : List ℕ). fields_of fits (at + p.0) bytes) (drop-drop p.0 at states))
