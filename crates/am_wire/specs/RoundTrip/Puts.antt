-- Fields that are written are read back, whatever follows them.
use Rattle.std.proofs.Common.{◌≡◌, ℕ, ◌+◌, ◌*◌, ◌^◌, ◌<◌, ◌≤◌, Bool, eqb, true, false, cond, List, [], ◌∷◌, ◌++◌, length, map, Option, None}
use Rattle.std.proofs.Common.{Result, refl, sym, ap, ◌∙◌, append_assoc, length-append, arith}
use Rattle.std.specs.List.{flat_map}
use Rattle.std.proofs.lemmas.List.{append-nil, map-append}
use Rattle.am_wire.specs.declared.error.WireError.{WireError}
use Rattle.am_wire.specs.declared.value.WireType.{WireType}
use Rattle.am_wire.specs.declared.value.WireType.TheVariants as kinds
use Rattle.am_wire.specs.Varint.{shortest}
use Rattle.am_wire.specs.Fields.{FieldAt, varint, delimited_at, fields_of, field_at, pieces}
use Rattle.am_wire.specs.Grammar.{IsField}
use Rattle.am_wire.specs.Reading.{scan, sound_fields, ◌then◌}
use Rattle.am_wire.specs.Writing.{tag, writes_number, writes_delimited, writes_text}
use Rattle.am_wire.specs.RoundTrip.Varints.{shortest_spells}
use Rattle.am_wire.specs.RoundTrip.Pieces.{done, pieces-reads}
use Rattle.am_wire.specs.RoundTrip.Fields.{field_read}

-- the text is read as these fields, whatever follows
pub record Puts (fits : ℕ → WireType → Bool) (at : ℕ) (text : List ℕ) (es : List FieldAt) : Type 0 where
  pub reads : (rest : List ℕ) → fields_of fits at (text ++ rest) ≡ map done es ++ fields_of fits (at + length text) rest

-- ---- the fields written for a number, for bytes, for a text, and for several texts
abbrev pub number_field : ℕ → ℕ → ℕ → FieldAt
number_field n v at = record { number = n; payload = varint v; at = at }

-- the field of bytes
abbrev pub delimited_field : ℕ → List ℕ → ℕ → FieldAt
delimited_field n bytes at =
    record { number = n; payload = delimited_at (at + length (tag n 2) + length (shortest (length bytes))) bytes; at = at }

-- the fields of a number: none if it is 0
abbrev pub number_fields : ℕ → ℕ → ℕ → List FieldAt
number_fields n v at = cond (eqb v 0) [] (number_field n v at ∷ [])

-- the fields of a text: none if it is empty
abbrev pub text_fields : ℕ → List ℕ → ℕ → List FieldAt
text_fields n bytes at = cond (eqb (length bytes) 0) [] (delimited_field n bytes at ∷ [])

-- texts, each as a field of its own
abbrev pub writes_each_delimited : ℕ → List (List ℕ) → List ℕ
writes_each_delimited n texts = flat_map (writes_delimited n) texts

-- the fields of texts
abbrev pub delimited_fields : ℕ → List (List ℕ) → ℕ → List FieldAt
delimited_fields n [] at = []
delimited_fields n (t ∷ texts) at = delimited_field n t at ∷ delimited_fields n texts (at + length (writes_delimited n t))

pub length-writes_delimited : (n : ℕ) (bytes : List ℕ) → length bytes ≤ length (writes_delimited n bytes)
length-writes_delimited n bytes =
    omega (arith, length-append (tag n 2) (shortest (length bytes) ++ bytes), length-append (shortest (length bytes)) bytes)

module _ (fits : ℕ → WireType → Bool) where
  pub Puts-nil : (at : ℕ) → Puts fits at [] []
  Puts-nil at = record { reads = λ rest. ap (λ (n : ℕ). fields_of fits n rest) (omega arith) }

  pub Puts-then : (at : ℕ) (t u : List ℕ) (es fs : List FieldAt) → Puts fits at t es → Puts fits (at + length t) u fs
      → Puts fits at (t ++ u) (es ++ fs)
  Puts-then at t u es fs first second = record {
    reads = λ rest.
        let place : at + length t + length u ≡ at + length (t ++ u) = omega (arith, length-append t u) in
        ap (λ (x : List ℕ). fields_of fits at x) (append_assoc t u rest)
        ∙ first.reads (u ++ rest)
        ∙ ap (λ (x : List (Result FieldAt WireError)). map done es ++ x) (second.reads rest)
        ∙ sym (append_assoc (map done es) (map done fs) (fields_of fits (at + length t + length u) rest))
        ∙ ap (λ (x : List (Result FieldAt WireError)). x ++ fields_of fits (at + length t + length u) rest) (sym (map-append done es fs))
        ∙ ap (λ (n : ℕ). map done (es ++ fs) ++ fields_of fits n rest) place;
  }

  module _ (n : ℕ) (pos : 0 < n) (lt : n < 2 ^ 29) where
    writes_number_field : (v at : ℕ) → v < 2 ^ 64 → fits n kinds.Varint ≡ true
        → Puts fits at (tag n 0 ++ shortest v) (number_field n v at ∷ [])
    writes_number_field v at small fit =
        let field : IsField (number_field n v at) at (tag n 0 ++ shortest v) = record {
          tag = tag n 0;
          payload = shortest v;
          text_is = refl;
          at_is = refl;
          above_none = pos;
          below_all = lt;
          tag_is = shortest_spells (n * 8 + 0) (omega arith);
          payload_is = shortest_spells v small;
        } in
        record {
          reads = λ rest. pieces-reads (field_at fits) at (tag n 0 ++ shortest v) rest (number_field n v at)
              (field_read fits (number_field n v at) at (tag n 0 ++ shortest v) field fit);
        }

    pub Puts-number : (v at : ℕ) → v < 2 ^ 64 → fits n kinds.Varint ≡ true → Puts fits at (writes_number n v) (number_fields n v at)
    Puts-number v at small fit =
        elim (eqb v 0) as (λ b. Puts fits at (cond b [] (tag n 0 ++ shortest v)) (cond b [] (number_field n v at ∷ []))) [
          | true ↦ Puts-nil at
          | false ↦ writes_number_field v at small fit
        ]

    pub Puts-delimited : (bytes : List ℕ) (at : ℕ) → length bytes < 2 ^ 64 → fits n kinds.Bytes ≡ true
        → Puts fits at (writes_delimited n bytes) (delimited_field n bytes at ∷ [])
    Puts-delimited bytes at small fit =
        let size : List ℕ = shortest (length bytes) in
        let field : IsField (delimited_field n bytes at) at (writes_delimited n bytes) = record {
          tag = tag n 2;
          payload = size ++ bytes;
          text_is = refl;
          at_is = refl;
          above_none = pos;
          below_all = lt;
          tag_is = shortest_spells (n * 8 + 2) (omega arith);
          payload_is = record { size = size; size_is = shortest_spells (length bytes) small; text_is = refl; inside_is = refl };
        } in
        record {
          reads = λ rest. pieces-reads (field_at fits) at (writes_delimited n bytes) rest (delimited_field n bytes at)
              (field_read fits (delimited_field n bytes at) at (writes_delimited n bytes) field fit);
        }

    pub Puts-text : (bytes : List ℕ) (at : ℕ) → length bytes < 2 ^ 64 → fits n kinds.Bytes ≡ true
        → Puts fits at (writes_text n bytes) (text_fields n bytes at)
    Puts-text bytes at small fit =
        elim (eqb (length bytes) 0) as (λ b. Puts fits at (cond b [] (writes_delimited n bytes))
        (cond b [] (delimited_field n bytes at ∷ []))) [
          | true ↦ Puts-nil at
          | false ↦ Puts-delimited bytes at small fit
        ]

    pub Puts-each_delimited : (texts : List (List ℕ)) (at : ℕ) → length (writes_each_delimited n texts) < 2 ^ 64 → fits n kinds.Bytes ≡ true
        → Puts fits at (writes_each_delimited n texts) (delimited_fields n texts at)
    Puts-each_delimited [] at small fit = Puts-nil at
    Puts-each_delimited (t ∷ texts) at small fit =
        let whole = length-append (writes_delimited n t) (writes_each_delimited n texts) in
        let inner = length-writes_delimited n t in
        Puts-then at (writes_delimited n t) (writes_each_delimited n texts) (delimited_field n t at ∷ [])
        (delimited_fields n texts (at + length (writes_delimited n t)))
        (Puts-delimited t at (omega (arith, whole, inner)) fit)
        (Puts-each_delimited texts (at + length (writes_delimited n t)) (omega (arith, whole)) fit)

-- ---- a whole text
pub Puts-whole : (fits : ℕ → WireType → Bool) (at : ℕ) (text : List ℕ) (es : List FieldAt) → Puts fits at text es
    → fields_of fits at text ≡ map done es
unfolding pieces
Puts-whole fits at text es p =
    ap (λ (x : List ℕ). fields_of fits at x) (sym (append-nil text)) ∙ p.reads [] ∙ append-nil (map done es)

pub sound_fields-done : (es : List FieldAt) → sound_fields (map done es) ≡ es
sound_fields-done [] = refl
sound_fields-done (e ∷ es) = ap (λ (x : List FieldAt). e ∷ x) (sound_fields-done es)

-- the fields have no fault inside
abbrev pub AllClean : (FieldAt → Option WireError) → List FieldAt → Type 0
AllClean inside [] = Unit {0}
AllClean inside (e ∷ es) = (inside e ≡ None) × AllClean inside es

pub scan-done : (inside : FieldAt → Option WireError) (es : List FieldAt) → AllClean inside es → scan inside (map done es) ≡ None
scan-done inside [] h = refl
scan-done inside (e ∷ es) h = ap (λ (f : Option WireError). f then scan inside (map done es)) h.0 ∙ scan-done inside es h.1

pub AllClean-append : (inside : FieldAt → Option WireError) (es fs : List FieldAt) → AllClean inside es → AllClean inside fs
    → AllClean inside (es ++ fs)
AllClean-append inside [] fs h k = k
AllClean-append inside (e ∷ es) fs h k = (h.0, AllClean-append inside es fs h.1 k)
