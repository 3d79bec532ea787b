-- The slots that a message writes, one for each of its numbers, and the fields that are read back from them.
use Rattle.std.proofs.Common.{◌≡◌, ℕ, ◌+◌, ◌^◌, ◌<◌, ◌≤◌, Bool, ltb, eqb, true, false, cond, ◌&&◌, List, [], ◌∷◌, ◌++◌, length, None, refl}
use Rattle.std.proofs.Common.{sym, ap, ◌∙◌, length-append, arith}
use Rattle.std.specs.List.{flat_map}
use Rattle.std.proofs.lemmas.Bool.{eqb-true, ltb-true, and_parts}
use Rattle.std.proofs.lemmas.List.{append-nil}
use Rattle.std.proofs.lemmas.List.Concat.{flat_map-append}
use Rattle.am_wire.specs.declared.value.WireType.{WireType}
use Rattle.am_wire.specs.Fields.{FieldAt}
use Rattle.am_wire.specs.Reading.{Row, fits_by, inside_by, picked}
use Rattle.am_wire.specs.Writing.{writes_number, writes_text, writes_delimited}
use Rattle.am_wire.specs.RoundTrip.Puts.{AllClean, number_field, number_fields, text_fields, delimited_field, delimited_fields}

-- ---- what is written
-- the content of a slot: a number, which is left out if it is 0; bytes, which are left out if there are none; a message; or
-- messages, as all their bytes and the text of each
pub data Content : Type 0 where
  number : ℕ → Content
  text : List ℕ → Content
  part : List ℕ → Content
  items : List ℕ → List (List ℕ) → Content

-- a content and its number
pub record Slot : Type 0 where
  pub slot_number : ℕ
  pub content : Content

-- the slot of this number and content
abbrev pub slot : ℕ → Content → Slot
slot n c = record { slot_number = n; content = c }

-- the bytes written for a content
abbrev pub put : ℕ → Content → List ℕ
put n (number v) = writes_number n v
put n (text bytes) = writes_text n bytes
put n (part bytes) = writes_delimited n bytes
put n (items bytes texts) = bytes

-- the bytes of a message, whose slots are listed from the last written to the first
abbrev pub written : List Slot → List ℕ
written [] = []
written (s ∷ before) = written before ++ put s.slot_number s.content

-- ---- the fields that are read from slots
unfoldable pub slot_fields : ℕ → Content → ℕ → List FieldAt
slot_fields n (number v) at = number_fields n v at
slot_fields n (text bytes) at = text_fields n bytes at
slot_fields n (part bytes) at = delimited_field n bytes at ∷ []
slot_fields n (items bytes texts) at = delimited_fields n texts at

-- the fields of slots, which are listed from the last written to the first
unfoldable pub fields_at : ℕ → List Slot → List FieldAt
fields_at at [] = []
fields_at at (s ∷ before) = fields_at at before ++ slot_fields s.slot_number s.content (at + length (written before))

-- ---- a number's slot
abbrev pub content_at : ℕ → List Slot → Content
content_at n [] = number 0
content_at n (s ∷ before) = cond (eqb s.slot_number n) s.content (content_at n before)

-- the offset at which the text for a number begins
abbrev pub place_at : ℕ → ℕ → List Slot → ℕ
place_at n at [] = at
place_at n at (s ∷ before) = cond (eqb s.slot_number n) (at + length (written before)) (place_at n at before)

-- no slot has the number
abbrev pub is_new : ℕ → List Slot → Bool
is_new n [] = true
is_new n (s ∷ before) = cond (eqb s.slot_number n) false (is_new n before)

-- the number may be written next
abbrev pub is_next : ℕ → List Slot → Bool
is_next n before = ltb 0 n && (ltb n (2 ^ 29) && is_new n before)

-- the number may be written next: a field may have it, and no slot has it yet
pub record IsNext (n : ℕ) (before : List Slot) : Type 0 where
  pub low : 0 < n
  pub high : n < 2 ^ 29
  pub new : is_new n before ≡ true

pub IsNext-from : (n : ℕ) (before : List Slot) → is_next n before ≡ true → IsNext n before
IsNext-from n before h =
    let a = and_parts _ _ h in
    let b = and_parts _ _ a.1 in
    record { low = ltb-true _ _ a.0; high = ltb-true _ _ b.0; new = b.1 }

-- no two slots have the same number
abbrev pub AreDistinct : List Slot → Type 0
AreDistinct [] = Unit {0}
AreDistinct (s ∷ before) = (is_new s.slot_number before ≡ true) × AreDistinct before

-- ---- the fields of one number
abbrev pub AllNumbered : ℕ → List FieldAt → Type 0
AllNumbered n [] = Unit {0}
AllNumbered n (e ∷ es) = (e.number ≡ n) × AllNumbered n es

delimited_fields_numbered : (n : ℕ) (texts : List (List ℕ)) (at : ℕ) → AllNumbered n (delimited_fields n texts at)
delimited_fields_numbered n [] at = tt
delimited_fields_numbered n (t ∷ texts) at = (refl, delimited_fields_numbered n texts (at + length (writes_delimited n t)))

numbered_if : (n : ℕ) (b : Bool) (e : FieldAt) → e.number ≡ n → AllNumbered n (cond b [] (e ∷ []))
numbered_if n true e h = tt
numbered_if n false e h = (h, tt)

pub slot_fields_numbered : (n : ℕ) (c : Content) (at : ℕ) → AllNumbered n (slot_fields n c at)
unfolding slot_fields
slot_fields_numbered n (number v) at = numbered_if n (eqb v 0) (number_field n v at) refl
slot_fields_numbered n (text bytes) at = numbered_if n (eqb (length bytes) 0) (delimited_field n bytes at) refl
slot_fields_numbered n (part bytes) at = (refl, tt)
slot_fields_numbered n (items bytes texts) at = delimited_fields_numbered n texts at

module _ {A : Type 0} (view : FieldAt → List A) (n : ℕ) where
  pub picked-append : (es fs : List FieldAt) → picked view n (es ++ fs) ≡ picked view n es ++ picked view n fs
  picked-append es fs = flat_map-append (λ e. cond (eqb e.number n) (view e) []) es fs

  pub picked-numbered : (m : ℕ) (es : List FieldAt) → AllNumbered m es → picked view n es ≡ cond (eqb m n) (flat_map view es) []
  picked-numbered m [] h = elim (eqb m n) as (λ b. [] ≡ cond b (flat_map view []) []) [ true ↦ refl | false ↦ refl ]
  picked-numbered m (e ∷ es) h =
      let both : cond (eqb m n) (view e) [] ++ cond (eqb m n) (flat_map view es) [] ≡ cond (eqb m n) (view e ++ flat_map view es) [] =
      elim (eqb m n) as (λ b. cond b (view e) [] ++ cond b (flat_map view es) [] ≡ cond b
      (view e ++ flat_map view es) []) [ true ↦ refl | false ↦ refl ] in
      ap (λ (k : ℕ). cond (eqb k n) (view e) [] ++ picked view n es) h.0
      ∙ ap (λ (x : List A). cond (eqb m n) (view e) [] ++ x) (picked-numbered m es h.1)
      ∙ both

  -- a number that is not written has no fields
  pub picked-new : (at : ℕ) (slots : List Slot) → is_new n slots ≡ true → picked view n (fields_at at slots) ≡ []
  unfolding fields_at
  picked-new at [] h = refl
  picked-new at (s ∷ before) h =
      let p : ℕ = at + length (written before) in
      let es : List FieldAt = slot_fields s.slot_number s.content p in
      elim (eqb s.slot_number n) as (λ b. eqb s.slot_number n ≡ b → cond b false (is_new n before) ≡ true
      → picked view n (fields_at at before ++ es) ≡ []) [
        | true ↦ λ e f. absurd cc
        | false ↦ λ e f.
            picked-append (fields_at at before) es
            ∙ ap (λ (x : List A). x ++ picked view n es) (picked-new at before f)
            ∙ picked-numbered s.slot_number es (slot_fields_numbered s.slot_number s.content p)
            ∙ ap (λ (b : Bool). cond b (flat_map view es) []) e
      ] refl h

  pub picked-slots : (at : ℕ) (slots : List Slot) → AreDistinct slots
      → picked view n (fields_at at slots) ≡ flat_map view (slot_fields n (content_at n slots) (place_at n at slots))
  unfolding fields_at slot_fields
  picked-slots at [] h = refl
  picked-slots at (s ∷ before) h =
      let p : ℕ = at + length (written before) in
      let es : List FieldAt = slot_fields s.slot_number s.content p in
      let here = picked-numbered s.slot_number es (slot_fields_numbered s.slot_number s.content p) in
      let split = picked-append (fields_at at before) es in
      elim (eqb s.slot_number n) as (λ b. eqb s.slot_number n ≡ b
      → picked view n (fields_at at before ++ es) ≡ flat_map view
      (slot_fields n (cond b s.content (content_at n before)) (cond b p (place_at n at before)))) [
        | true ↦ λ e.
            let same : s.slot_number ≡ n = eqb-true _ _ e in
            split
            ∙ ap (λ (x : List A). x ++ picked view n es) (picked-new at before (rw same at h.0))
            ∙ here
            ∙ ap (λ (b : Bool). cond b (flat_map view es) []) e
            ∙ ap (λ (m : ℕ). flat_map view (slot_fields m s.content p)) same
        | false ↦ λ e.
            split
            ∙ ap (λ (x : List A). picked view n (fields_at at before) ++ x) (here ∙ ap (λ (b : Bool). cond b (flat_map view es) []) e)
            ∙ append-nil (picked view n (fields_at at before))
            ∙ picked-slots at before h.1
      ] refl

-- ---- no slot is longer than the whole
pub length-content_at : (n : ℕ) (slots : List Slot) → length (put n (content_at n slots)) ≤ length (written slots)
length-content_at n [] = omega arith
length-content_at n (s ∷ before) =
    let whole = length-append (written before) (put s.slot_number s.content) in
    let more = length-content_at n before in
    elim (eqb s.slot_number n) as (λ b. eqb s.slot_number n ≡ b
    → length (put n (cond b s.content (content_at n before))) ≤ length (written (s ∷ before))) [
      | true ↦ λ e.
          let same : s.slot_number ≡ n = eqb-true _ _ e in
          let one : length (put n s.content) ≡ length (put s.slot_number s.content) = ap (λ (m : ℕ). length (put m s.content)) (sym same) in
          omega (arith, whole, one)
      | false ↦ λ e. omega (arith, whole, more)
    ] refl

-- ---- a number's row
-- the row of an unknown number, which takes any field
abbrev pub unknown_row : ℕ → Row
unknown_row n = record { row_number = n; takes = λ kind. true; row_inside = λ e. None }

-- the row of a number
abbrev pub row_at : List Row → ℕ → Row
row_at [] n = unknown_row n
row_at (row ∷ rows) n = cond (eqb n row.row_number) row (row_at rows n)

pub fits_by-row : (rows : List Row) (n : ℕ) (kind : WireType) → fits_by rows n kind ≡ (row_at rows n).takes kind
fits_by-row [] n kind = refl
fits_by-row (row ∷ rows) n kind =
    elim (eqb n row.row_number) as
    (λ b. cond b (row.takes kind) (fits_by rows n kind) ≡
    (cond b row (row_at rows n)).takes kind) [ true ↦ refl | false ↦ fits_by-row rows n kind ]

pub inside_by-row : (rows : List Row) (e : FieldAt) → inside_by rows e ≡ (row_at rows e.number).row_inside e
inside_by-row [] e = refl
inside_by-row (row ∷ rows) e =
    elim (eqb e.number row.row_number) as
    (λ b. cond b (row.row_inside e) (inside_by rows e) ≡
    (cond b row (row_at rows e.number)).row_inside e) [ true ↦ refl | false ↦ inside_by-row rows e ]

pub AllClean-row : (rows : List Row) (n : ℕ) (es : List FieldAt) → AllNumbered n es → AllClean (row_at rows n).row_inside es
    → AllClean (inside_by rows) es
AllClean-row rows n [] h c = tt
AllClean-row rows n (e ∷ es) h c =
    let inside : (row_at rows e.number).row_inside e ≡ None = ap (λ (m : ℕ). (row_at rows m).row_inside e) h.0 ∙ c.0 in
    (inside_by-row rows e ∙ inside, AllClean-row rows n es h.1 c.1)
