-- Unknown fields behind a message change nothing of what is read of it.
use Rattle.std.proofs.Common.{◌≡◌, ℕ, ◌+◌, ◌^◌, ◌<◌, Bool, true, false, cond, eqb, ◌||◌, ◌&&◌, List, [], ◌∷◌, ◌++◌, length, map, Option, None}
use Rattle.std.proofs.Common.{refl, sym, ap, ◌∙◌}
use Rattle.std.specs.List.{All}
use Rattle.std.proofs.lemmas.Bool.{eqb-true, eqb-false, ne_eqb, or_parts, and_parts}
use Rattle.std.proofs.lemmas.List.{append-nil}
use Rattle.std.proofs.lemmas.List.Elements.{All-nil, All-cons, All-head, All-tail, All-append}
use Rattle.am_wire.specs.declared.error.WireError.{WireError}
use Rattle.am_wire.specs.declared.value.WireType.{WireType}
use Rattle.am_wire.specs.Fields.{FieldAt}
use Rattle.am_wire.specs.Grammar.{AreFields, field_fits}
use Rattle.am_wire.specs.Messages.{AreSound}
use Rattle.am_wire.specs.Reading.{Table, Row, table_of, fits_by, inside_by, picked, fields_in, faults_in, parts_in, delimited_given}
use Rattle.am_wire.specs.Reading.{delimited_place, last_or, is_given, merged, last_place}
use Rattle.am_wire.specs.Timestamps.{timestamp, timestamp_tests, moment, moment_of, moment_test}
use Rattle.am_wire.specs.Unknown.{knows, IsOther, unknown_in, AllUnknown, AreUnknown}
use Rattle.am_wire.specs.RoundTrip.Puts.{Puts-whole}
use Rattle.am_wire.specs.RoundTrip.Slots.{Slot, written, fields_at, slot_fields, AllNumbered, slot_fields_numbered, picked-append}
use Rattle.am_wire.proofs.Kept.{fields_joined, known_passed, unknown_stay}
use Rattle.am_wire.specs.RoundTrip.Written.{IsWritten, ReadsAs}
use Rattle.am_wire.proofs.Exact.{fields_found}
use Rattle.am_wire.proofs.Meanings.{sound_read, sound_found}

unknown_apart : (known : List ℕ) (n m : ℕ) → knows known n ≡ true → knows known m ≡ false → eqb m n ≡ false
unknown_apart [] n m here there = absurd cc
unknown_apart (k ∷ known) n m here there =
    let apart = or_parts (eqb k m) (knows known m) there in
    elim (eqb k n) as (λ b. eqb k n ≡ b → (b || knows known n) ≡ true → eqb m n ≡ false) [
      | true ↦ λ e _. ne_eqb m n (λ same. eqb-false k m apart.0 (eqb-true k n e ∙ sym same))
      | false ↦ λ _ h. unknown_apart known n m h apart.1
    ] refl here

-- what is seen of a known number
module _ {A : Type 0} (view : FieldAt → List A) (known : List ℕ) (n : ℕ) (is_known : knows known n ≡ true) where
  picked_none : (fs : List FieldAt) → AllUnknown known fs → picked view n fs ≡ []
  picked_none [] all = refl
  picked_none (f ∷ fs) all =
      let apart = unknown_apart known n f.number is_known (All-head (IsOther known) f fs all) in
      ap (λ b. cond b (view f) [] ++ picked view n fs) apart ∙ picked_none fs (All-tail (IsOther known) f fs all)

  pub picked_before : (es fs : List FieldAt) → AllUnknown known fs → picked view n (es ++ fs) ≡ picked view n es
  picked_before es fs all =
      picked-append view n es fs ∙ ap (λ (x : List A). picked view n es ++ x) (picked_none fs all) ∙ append-nil (picked view n es)

module _ (known : List ℕ) (n : ℕ) (is_known : knows known n ≡ true) (es fs : List FieldAt) (all : AllUnknown known fs) where
  pub given_before : is_given n (es ++ fs) ≡ is_given n es
  given_before = ap (last_or false) (picked_before delimited_given known n is_known es fs all)

  pub place_before : last_place n (es ++ fs) ≡ last_place n es
  place_before = ap (last_or 0) (picked_before delimited_place known n is_known es fs all)

  pub merged_before : (table : Table) → merged table n (es ++ fs) ≡ merged table n es
  merged_before table = picked_before (parts_in table) known n is_known es fs all

  pub moment_before : moment_of n (es ++ fs) ≡ moment_of n es
  moment_before = ap (λ (b : Bool). cond b (moment (merged timestamp n (es ++ fs))) 0) given_before
      ∙ ap (λ (x : List FieldAt). cond (is_given n es) (moment x) 0) (merged_before timestamp)

  pub moment_test_before : moment_test n (es ++ fs) ≡ moment_test n es
  moment_test_before = ap (λ (p : ℕ). timestamp_tests p (merged timestamp n (es ++ fs))) place_before
      ∙ ap (timestamp_tests (last_place n es)) (merged_before timestamp)

-- tests and value of a message see no unknown field behind its own
pub record Overlooks {A : Type 0} (known : List ℕ) (tests : ℕ → List FieldAt → Option WireError) (value : List FieldAt → A) : Type 0 where
  pub tests_stay : (place : ℕ) (es fs : List FieldAt) → AllUnknown known fs → tests place (es ++ fs) ≡ tests place es
  pub value_stays : (es fs : List FieldAt) → AllUnknown known fs → value (es ++ fs) ≡ value es

-- ---- a message and unknown fields
abbrev pub numbers : List Row → List ℕ
numbers rows = map (λ row. row.row_number) rows

unknown_fits : (rows : List Row) (n : ℕ) (kind : WireType) → knows (numbers rows) n ≡ false → fits_by rows n kind ≡ true
unknown_fits [] n kind new = refl
unknown_fits (row ∷ rows) n kind new =
    let apart = or_parts (eqb row.row_number n) (knows (numbers rows) n) new in
    let other : eqb n row.row_number ≡ false = ne_eqb n row.row_number (λ same. eqb-false row.row_number n apart.0 (sym same)) in
    ap (λ b. cond b (row.takes kind) (fits_by rows n kind)) other ∙ unknown_fits rows n kind apart.1

unknown_clean : (rows : List Row) (e : FieldAt) → IsOther (numbers rows) e → inside_by rows e ≡ None
unknown_clean [] e new = refl
unknown_clean (row ∷ rows) e new =
    let apart = or_parts (eqb row.row_number e.number) (knows (numbers rows) e.number) new in
    let other : eqb e.number row.row_number ≡ false = ne_eqb e.number row.row_number (λ same. eqb-false row.row_number e.number apart.0 (sym same)) in
    ap (λ b. cond b (row.row_inside e) (inside_by rows e)) other ∙ unknown_clean rows e apart.1

module _ (rows : List Row) (text rest : List ℕ) (sound : (at : ℕ) → faults_in (table_of rows) at text ≡ None) (unknown : AreUnknown (numbers rows) rest) (at : ℕ) where
  abbrev table : Table
  table = table_of rows

  abbrev es : List FieldAt
  es = fields_in table at text

  abbrev pub behind : List FieldAt
  behind = (unknown (at + length text)).fields

  sound_before : AreSound table (es ++ behind) at (text ++ rest)
  sound_before =
      let own = sound_found table at text (sound at) in
      let others = unknown (at + length text) in
      record {
        fields = fields_joined (numbers rows) es behind at text rest own.fields others.spelled;
        fit = All-append (λ e. field_fits (fits_by rows) e ≡ true) es behind own.fit
            (λ k d h. unknown_fits rows _ _ (others.unknown k d h));
        clean = All-append (λ e. inside_by rows e ≡ None) es behind own.clean (λ k d h. unknown_clean rows _ (others.unknown k d h));
      }

  pub clean_before : faults_in table at (text ++ rest) ≡ None
  clean_before = (sound_read table at (text ++ rest) (es ++ behind) sound_before).0

  pub fields_before : fields_in table at (text ++ rest) ≡ es ++ behind
  fields_before = (sound_read table at (text ++ rest) (es ++ behind) sound_before).1

pub reads_before : {A : Type 0} (rows : List Row) {tests : ℕ → List FieldAt → Option WireError} {value : List FieldAt → A} {text rest : List ℕ} {v : A}
    → Overlooks (numbers rows) tests value → ReadsAs (table_of rows) tests value text v → AreUnknown (numbers rows) rest
    → ReadsAs (table_of rows) tests value (text ++ rest) v
reads_before {A} rows {tests} {value} {text} {rest} {v} overlooks reads unknown = record {
  clean = clean_before rows text rest reads.clean unknown;
  means = λ at.
      let es = fields_in (table_of rows) at text in
      let fs = behind rows text rest reads.clean unknown at in
      let all = fields_before rows text rest reads.clean unknown at in
      let others = (unknown (at + length text)).unknown in
      record {
        passes = λ place. ap (tests place) all ∙ overlooks.tests_stay place es fs others ∙ (reads.means at).passes place;
        value_is = ap value all ∙ overlooks.value_stays es fs others ∙ (reads.means at).value_is;
      };
}

-- ---- texts of known fields
pub record AreKnownAt (known : List ℕ) (text : List ℕ) (at : ℕ) : Type 0 where
  pub fields : List FieldAt
  pub spelled : AreFields fields at text
  pub known_all : All (λ e. knows known e.number ≡ true) fields

abbrev pub AreKnown : List ℕ → List ℕ → Type 0
AreKnown known text = (at : ℕ) → AreKnownAt known text at

abbrev pub are_known : List ℕ → List Slot → Bool
are_known known [] = true
are_known known (s ∷ before) = knows known s.slot_number && are_known known before

module _ (known : List ℕ) where
  abbrev IsKnown : FieldAt → Type 0
  IsKnown e = knows known e.number ≡ true

  numbered_known : (n : ℕ) (es : List FieldAt) → knows known n ≡ true → AllNumbered n es → All IsKnown es
  numbered_known n [] is all = All-nil IsKnown
  numbered_known n (e ∷ es) is all = All-cons IsKnown e es (ap (knows known) all.0 ∙ is) (numbered_known n es is all.1)

  slots_known : (slots : List Slot) (at : ℕ) → are_known known slots ≡ true → All IsKnown (fields_at at slots)
  unfolding fields_at
  slots_known [] at are = All-nil IsKnown
  slots_known (s ∷ before) at are =
      let parts = and_parts (knows known s.slot_number) (are_known known before) are in
      let place : ℕ = at + length (written before) in
      All-append IsKnown (fields_at at before) (slot_fields s.slot_number s.content place) (slots_known before at parts.1)
      (numbered_known s.slot_number (slot_fields s.slot_number s.content place) parts.0 (slot_fields_numbered s.slot_number s.content place))

  pub written_known : {rows : List Row} {slots : List Slot} → IsWritten rows slots → length (written slots) < 2 ^ 64 → are_known known slots ≡ true
      → AreKnown known (written slots)
  written_known {rows} {slots} w small are at = record {
    fields = fields_at at slots;
    spelled = (fields_found (fits_by rows) at (written slots) (fields_at at slots)
        (Puts-whole (fits_by rows) at (written slots) (fields_at at slots) (w.puts at small))).0;
    known_all = slots_known slots at are;
  }

  -- the unknown fields behind such a text are read again
  pub unknown_again : (text rest : List ℕ) → AreKnown known text → AreUnknown known rest → unknown_in known (text ++ rest) ≡ rest
  unfolding unknown_in
  unknown_again text rest is unknown =
      let own = is 0 in
      let others = unknown (length text) in
      known_passed known own.fields 0 0 text rest own.spelled own.known_all
      ∙ unknown_stay known others.fields (length text) (0 + length text) rest others.spelled others.unknown
