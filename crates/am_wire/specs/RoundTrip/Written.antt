-- A message that is written slot by slot is read back.
--
-- Build `IsWritten rows slots` by one call for each slot, in rising order of their numbers. Then take each value back by one
-- call for its number. At last, join them by `reads_whole`.
use Rattle.std.proofs.Common.{◌≡◌, ℕ, ◌+◌, ◌^◌, ◌<◌, Bool, eqb, true, false, cond, List, [], ◌∷◌, ◌++◌, length, map, Option, Some, None}
use Rattle.std.proofs.Common.{Result, Ok, refl, sym, ap, subst, ◌∙◌, length-append, arith}
use Rattle.std.specs.List.{All, flat_map}
use Rattle.std.specs.Str.{IsUtf8, is_utf8}
use Rattle.std.proofs.lemmas.Bool.{eqb-true}
use Rattle.std.proofs.lemmas.List.{append-nil, nil_from_length}
use Rattle.std.proofs.lemmas.Str.{is_utf8-from_IsUtf8}
use Rattle.std.proofs.lemmas.List.Folds.{flat_map-map}
use Rattle.std.proofs.lemmas.List.Elements.{All-head, All-tail}
use Rattle.am_wire.specs.declared.error.WireError.{WireError}
use Rattle.am_wire.specs.declared.error.WireError.TheVariants.{NotUtf8}
use Rattle.am_wire.specs.declared.value.WireType.{WireType}
use Rattle.am_wire.specs.declared.value.WireType.TheVariants as kinds
use Rattle.am_wire.specs.Varint.{shortest, varint_at}
use Rattle.am_wire.specs.Fields.{FieldAt, fields_of, pieces}
use Rattle.am_wire.specs.Reading.{Table, Row, scan, sound_fields, table_of, fits_by, inside_by, varint_row, text_row, blob_row, part_row}
use Rattle.am_wire.specs.Reading.{item_row, numbers_row, item_fault, fields_in, faults_in, fault_or_value, read_by, ◌then◌, picked, last_or}
use Rattle.am_wire.specs.Reading.{varint_in, delimited_in, delimited_given, message_in, parts_in, last_number, last_text, messages, merged}
use Rattle.am_wire.specs.Reading.{is_given, numbers_in, all_numbers, until_fault, first_fault}
use Rattle.am_wire.specs.Writing.{tag, writes_text, writes_delimited, writes_messages}
use Rattle.am_wire.specs.RoundTrip.Puts.{Puts, Puts-nil, Puts-then, Puts-number, Puts-text, Puts-delimited, Puts-each_delimited, Puts-whole}
use Rattle.am_wire.specs.RoundTrip.Puts.{length-writes_delimited, writes_each_delimited, AllClean, AllClean-append}
use Rattle.am_wire.specs.RoundTrip.Puts.{sound_fields-done, scan-done, number_field}
use Rattle.am_wire.specs.RoundTrip.Puts.{number_fields, text_fields, delimited_field, delimited_fields}
use Rattle.am_wire.specs.RoundTrip.Pieces.{done, Reads, pieces-reads}
use Rattle.am_wire.specs.RoundTrip.Varints.{varint_again, shortest_filled}
use Rattle.am_wire.specs.RoundTrip.Slots.{Content, number, text, part, items, Slot, slot, put, written, slot_fields, fields_at, content_at}
use Rattle.am_wire.specs.RoundTrip.Slots.{place_at, is_next, IsNext, IsNext-from, AreDistinct, slot_fields_numbered, picked-slots}
use Rattle.am_wire.specs.RoundTrip.Slots.{length-content_at, row_at, fits_by-row, AllClean-row}

-- the fields pass a message's tests, and make the value
pub record Means {A : Type 0} (tests : ℕ → List FieldAt → Option WireError)
    (value : List FieldAt → A) (es : List FieldAt) (v : A) : Type 0 where
  pub passes : (place : ℕ) → tests place es ≡ None
  pub value_is : value es ≡ v

-- the text has no fault at any offset, and is read as the value
pub record ReadsAs {A : Type 0} (table : Table) (tests : ℕ → List FieldAt → Option WireError)
    (value : List FieldAt → A) (bytes : List ℕ) (v : A) : Type 0 where
  pub clean : (at : ℕ) → faults_in table at bytes ≡ None
  pub means : (at : ℕ) → Means tests value (fields_in table at bytes) v

-- each of these values is read back from its own text
pub record EachReads {A : Type 0} (table : Table) (tests : ℕ → List FieldAt → Option WireError) (value : List FieldAt → A)
    (writes : A → List ℕ) (xs : List A) : Type 0 where
  pub each : All (λ x. length (writes x) < 2 ^ 64 → ReadsAs table tests value (writes x) x) xs

pub read_by-reads : {A : Type 0} {table : Table} {tests : ℕ → List FieldAt → Option WireError}
    {value : List FieldAt → A} {bytes : List ℕ} {v : A}
    → ReadsAs table tests value bytes v → (place at : ℕ) → read_by table tests value place at bytes ≡ Ok v
read_by-reads {A} {table} {tests} {value} {bytes} {v} r place at =
    ap (λ (f : Option WireError).
    fault_or_value (f then tests place (fields_in table at bytes)) (value (fields_in table at bytes))) (r.clean at)
    ∙ ap (λ (f : Option WireError). fault_or_value f (value (fields_in table at bytes))) ((r.means at).passes place)
    ∙ ap (λ (x : A). fault_or_value None x) (r.means at).value_is

-- ---- what is written
pub record IsWritten (rows : List Row) (slots : List Slot) : Type 0 where
  pub distinct : AreDistinct slots
  pub puts : (at : ℕ) → length (written slots) < 2 ^ 64 → Puts (fits_by rows) at (written slots) (fields_at at slots)
  pub clean : (at : ℕ) → length (written slots) < 2 ^ 64 → AllClean (inside_by rows) (fields_at at slots)

pub written_nothing : (rows : List Row) → IsWritten rows []
unfolding fields_at
written_nothing rows = record { distinct = tt; puts = λ at small. Puts-nil (fits_by rows) at; clean = λ at small. tt }

pub text_is_clean : (at : ℕ) (bytes : List ℕ) → IsUtf8 bytes → cond (is_utf8 bytes) None (Some (NotUtf8 at)) ≡ None
text_is_clean at bytes h = ap (λ (b : Bool). cond b None (Some (NotUtf8 at))) (is_utf8-from_IsUtf8 bytes h)

clean_if : (inside : FieldAt → Option WireError) (b : Bool) (e : FieldAt) → inside e ≡ None → AllClean inside (cond b [] (e ∷ []))
clean_if inside true e h = tt
clean_if inside false e h = (h, tt)

delimited_small : (n : ℕ) (bytes : List ℕ) → length (writes_delimited n bytes) < 2 ^ 64 → length bytes < 2 ^ 64
delimited_small n bytes small = let h = length-writes_delimited n bytes in omega (arith, h)

-- a text is shorter than 2 ^ 64 bytes if its field is, even if the field is left out
text_small : (n : ℕ) (bytes : List ℕ) → length (writes_text n bytes) < 2 ^ 64 → length bytes < 2 ^ 64
text_small n bytes =
    elim (eqb (length bytes) 0) as (λ b. eqb (length bytes) 0 ≡ b → length (cond b [] (writes_delimited n bytes)) < 2 ^ 64
    → length bytes < 2 ^ 64) [
      | true ↦ λ e _. let h = eqb-true _ _ e in omega (arith, h)
      | false ↦ λ e small. delimited_small n bytes small
    ] refl

module _ {rows : List Row} {before : List Slot} (w : IsWritten rows before) (n : ℕ) where
  -- one more slot is written
  one_more : (c : Content) → IsNext n before
      → ((at : ℕ) → length (put n c) < 2 ^ 64 → Puts (fits_by rows) at (put n c) (slot_fields n c at))
      → ((at : ℕ) → length (put n c) < 2 ^ 64 → AllClean (row_at rows n).row_inside (slot_fields n c at))
      → IsWritten rows (slot n c ∷ before)
  unfolding fields_at
  one_more c next puts clean =
      let len = length-append (written before) (put n c) in
      record {
        distinct = (next.new, w.distinct);
        puts = λ at small.
            let place : ℕ = at + length (written before) in
            Puts-then (fits_by rows) at (written before) (put n c) (fields_at at before) (slot_fields n c place)
            (w.puts at (omega (arith, len))) (puts place (omega (arith, len)));
        clean = λ at small.
            let place : ℕ = at + length (written before) in
            AllClean-append (inside_by rows) (fields_at at before) (slot_fields n c place)
            (w.clean at (omega (arith, len)))
            (AllClean-row rows n (slot_fields n c place) (slot_fields_numbered n c place) (clean place (omega (arith, len))));
      }

  taken : (row : Row) (kind : WireType) → row_at rows n ≡ row → row.takes kind ≡ true → fits_by rows n kind ≡ true
  taken row kind is takes = fits_by-row rows n kind ∙ ap (λ (r : Row). r.takes kind) is ∙ takes

  cleaned : (row : Row) (es : List FieldAt) → row_at rows n ≡ row → AllClean row.row_inside es → AllClean (row_at rows n).row_inside es
  cleaned row es is h = subst (λ (r : Row). AllClean r.row_inside es) (sym is) h

  pub written_number : (v : ℕ) → v < 2 ^ 64 → is_next n before ≡ true → row_at rows n ≡ varint_row n
      → IsWritten rows (slot n (number v) ∷ before)
  unfolding slot_fields
  written_number v small next row =
      let order = IsNext-from n before next in
      one_more (number v) order
      (λ at _. Puts-number (fits_by rows) n order.low order.high v at small (taken (varint_row n) kinds.Varint row refl))
      (λ at _. cleaned (varint_row n) (number_fields n v at) row (clean_if (varint_row n).row_inside (eqb v 0) (number_field n v at) refl))

  -- bytes are written that their row takes, and that have no fault inside
  written_bytes : (bytes : List ℕ) (row : Row) → ((at : ℕ) → row.row_inside (delimited_field n bytes at) ≡ None)
      → row.takes kinds.Bytes ≡ true → is_next n before ≡ true → row_at rows n ≡ row → IsWritten rows (slot n (text bytes) ∷ before)
  unfolding slot_fields
  written_bytes bytes row clean takes next is =
      let order = IsNext-from n before next in
      one_more (text bytes) order
      (λ at small. Puts-text (fits_by rows) n order.low order.high bytes at (text_small n bytes small) (taken row kinds.Bytes is takes))
      (λ at _. cleaned row (text_fields n bytes at) is
      (clean_if row.row_inside (eqb (length bytes) 0) (delimited_field n bytes at) (clean at)))

  pub written_text : (bytes : List ℕ) → IsUtf8 bytes → is_next n before ≡ true → row_at rows n ≡ text_row n
      → IsWritten rows (slot n (text bytes) ∷ before)
  written_text bytes utf8 next row = written_bytes bytes (text_row n) (λ at. text_is_clean at bytes utf8) refl next row

  -- bytes are written that need not be a text
  pub written_blob : (bytes : List ℕ) → is_next n before ≡ true → row_at rows n ≡ blob_row n → IsWritten rows (slot n (text bytes) ∷ before)
  written_blob bytes next row = written_bytes bytes (blob_row n) (λ at. refl) refl next row

  module _ {A : Type 0} {table : Table} {tests : ℕ → List FieldAt → Option WireError} {value : List FieldAt → A} where
    -- a message is written that is held once
    pub written_part : {bytes : List ℕ} {v : A} → (length bytes < 2 ^ 64 → ReadsAs table tests value bytes v)
        → is_next n before ≡ true → row_at rows n ≡ part_row n table → IsWritten rows (slot n (part bytes) ∷ before)
    unfolding slot_fields
    written_part {bytes} {v} inner next row =
        let order = IsNext-from n before next in
        one_more (part bytes) order
        (λ at small. Puts-delimited (fits_by rows) n order.low order.high bytes at (delimited_small n bytes small)
        (taken (part_row n table) kinds.Bytes row refl))
        (λ at small. cleaned (part_row n table) (delimited_field n bytes at ∷ []) row ((inner (delimited_small n bytes small)).clean _, tt))

    -- messages are written, each in a field of its own; a message x is written as `writes x`
    module _ {writes : A → List ℕ} where
      items_clean : (xs : List A) (at : ℕ) → EachReads table tests value writes xs
          → length (writes_each_delimited n (map writes xs)) < 2 ^ 64
          → AllClean (item_fault table tests) (delimited_fields n (map writes xs) at)
      items_clean [] at inner small = tt
      items_clean (x ∷ xs) at inner small =
          let P : A → Type 0 = λ y. length (writes y) < 2 ^ 64 → ReadsAs table tests value (writes y) y in
          let len = length-append (writes_delimited n (writes x)) (writes_each_delimited n (map writes xs)) in
          let one = All-head P x xs inner.each (delimited_small n (writes x) (omega (arith, len))) in
          let e : FieldAt = delimited_field n (writes x) at in
          let p : ℕ = at + length (tag n 2) + length (shortest (length (writes x))) in (
            ap (λ (f : Option WireError). f then tests e.at (fields_in table p (writes x))) (one.clean p) ∙ (one.means p).passes e.at,
            items_clean xs (at + length (writes_delimited n (writes x))) (record { each = All-tail P x xs inner.each })
                (omega (arith, len)),
          )

      pub written_items : {xs : List A} → EachReads table tests value writes xs → is_next n before ≡ true
          → row_at rows n ≡ item_row n table tests
          → IsWritten rows (slot n (items (writes_messages writes n xs) (map writes xs)) ∷ before)
      unfolding slot_fields
      written_items {xs} inner next row =
          let order = IsNext-from n before next in
          let same = flat_map-map (writes_delimited n) writes xs in
          let len : length (writes_each_delimited n (map writes xs)) ≡ length (writes_messages writes n xs) = ap length same in
          one_more (items (writes_messages writes n xs) (map writes xs)) order
          (λ at small. subst (λ (bytes : List ℕ). Puts (fits_by rows) at bytes (delimited_fields n (map writes xs) at)) same
          (Puts-each_delimited (fits_by rows) n order.low order.high (map writes xs) at (omega (arith, len))
          (taken (item_row n table tests) kinds.Bytes row refl)))
          (λ at small. cleaned (item_row n table tests) (delimited_fields n (map writes xs) at) row
          (items_clean xs at inner (omega (arith, len))))

-- ---- numbers packed in one field
abbrev one_number : ℕ → ℕ → List ℕ → Result (ℕ × ℕ) WireError
one_number tag at bytes = varint_at tag bytes

number_read : (tag at x : ℕ) → x < 2 ^ 64 → Reads (one_number tag) x at (shortest x)
number_read tag at x small = record { filled = shortest_filled x; reads = λ rest. varint_again tag x rest small }

unpacked_from : (tag at : ℕ) (xs : List ℕ) → All (λ x. x < 2 ^ 64) xs → pieces (one_number tag) 0 at (flat_map shortest xs) ≡ map done xs
unfolding pieces
unpacked_from tag at [] small = refl
unpacked_from tag at (x ∷ xs) small =
    let more : ℕ = at + length (shortest x) in
    pieces-reads (one_number tag) at (shortest x) (flat_map shortest xs) x (number_read tag at x (All-head (λ y. y < 2 ^ 64) x xs small))
    ∙ ap (λ (r : List (Result ℕ WireError)). Ok x ∷ r) (unpacked_from tag more xs (All-tail (λ y. y < 2 ^ 64) x xs small))

kept-done : (xs : List ℕ) → until_fault (map done xs) ≡ xs
kept-done [] = refl
kept-done (x ∷ xs) = ap (λ (r : List ℕ). x ∷ r) (kept-done xs)

first_fault-done : (xs : List ℕ) → first_fault (map done xs) ≡ None
first_fault-done [] = refl
first_fault-done (x ∷ xs) = first_fault-done xs

pub written_numbers : {rows : List Row} {before : List Slot} (w : IsWritten rows before) (n : ℕ) (xs : List ℕ) → All (λ x. x < 2 ^ 64) xs
    → is_next n before ≡ true → row_at rows n ≡ numbers_row n → IsWritten rows (slot n (text (flat_map shortest xs)) ∷ before)
written_numbers w n xs small next row =
    written_bytes w n (flat_map shortest xs) (numbers_row n) (λ at. ap first_fault (unpacked_from at 0 xs small)
    ∙ first_fault-done xs) refl next row

-- ---- what is read back
last_delimited_or : {A : Type 0} (view : FieldAt → List A) (d : A) (x : A) (b : Bool) (e : FieldAt) → view e ≡ x ∷ [] → (b ≡ true → x ≡ d)
    → last_or d (flat_map view (cond b [] (e ∷ []))) ≡ x
last_delimited_or {A} view d x true e is none = sym (none refl)
last_delimited_or {A} view d x false e is none = ap (λ (xs : List A). last_or d (xs ++ [])) is

module _ {rows : List Row} {slots : List Slot} (w : IsWritten rows slots) (at n : ℕ) where
  -- `view` gives the same for the fields with this number as for those of its slot
  seen : {A : Type 0} (view : FieldAt → List A) (c : Content) → content_at n slots ≡ c
      → picked view n (fields_at at slots) ≡ flat_map view (slot_fields n c (place_at n at slots))
  seen view c is = picked-slots view n at slots w.distinct ∙ ap (λ (x : Content). flat_map view (slot_fields n x (place_at n at slots))) is

  -- `view` gives nothing for a number that is not written
  pub nothing_again : {A : Type 0} (view : FieldAt → List A) → content_at n slots ≡ number 0 → picked view n (fields_at at slots) ≡ []
  unfolding slot_fields
  nothing_again view is = seen view (number 0) is

  pub number_again : {v : ℕ} → content_at n slots ≡ number v → last_number n (fields_at at slots) ≡ v
  unfolding slot_fields
  number_again {v} is =
      ap (last_or 0) (seen varint_in (number v) is)
      ∙ last_delimited_or varint_in 0 v (eqb v 0) (number_field n v (place_at n at slots)) refl (eqb-true v 0)

  pub text_again : {bytes : List ℕ} → content_at n slots ≡ text bytes → last_text n (fields_at at slots) ≡ bytes
  unfolding slot_fields
  text_again {bytes} is =
      ap (last_or []) (seen delimited_in (text bytes) is)
      ∙ last_delimited_or delimited_in [] bytes (eqb (length bytes) 0) (delimited_field n bytes (place_at n at slots)) refl
      (λ e. nil_from_length bytes (eqb-true (length bytes) 0 e))

  pub numbers_again : (xs : List ℕ) → All (λ x. x < 2 ^ 64) xs → content_at n slots ≡ text (flat_map shortest xs)
      → all_numbers n (fields_at at slots) ≡ xs
  unfolding slot_fields
  numbers_again xs small is =
      let bytes : List ℕ = flat_map shortest xs in
      let e : FieldAt = delimited_field n bytes (place_at n at slots) in
      let unpacks : numbers_in e ≡ xs = ap until_fault (unpacked_from e.at 0 xs small) ∙ kept-done xs in
      seen numbers_in (text bytes) is
      ∙ elim (eqb (length bytes) 0) as (λ b. eqb (length bytes) 0 ≡ b → flat_map numbers_in (cond b [] (e ∷ [])) ≡ xs) [
        | true ↦ λ t. sym (numbers_empty xs (eqb-true (length bytes) 0 t))
        | false ↦ λ t. append-nil (numbers_in e) ∙ unpacks
      ] refl
    where
      numbers_empty : (ys : List ℕ) → length (flat_map shortest ys) ≡ 0 → ys ≡ []
      numbers_empty [] h = refl
      numbers_empty (y ∷ ys) h = absurd (omega (arith, h, length-append (shortest y) (flat_map shortest ys), shortest_filled y))

  pub given_again : {bytes : List ℕ} → content_at n slots ≡ part bytes → is_given n (fields_at at slots) ≡ true
  unfolding slot_fields
  given_again {bytes} is = ap (last_or false) (seen delimited_given (part bytes) is)

  pub delimited_again : {bytes : List ℕ} → content_at n slots ≡ part bytes → picked delimited_in n (fields_at at slots) ≡ bytes ∷ []
  unfolding slot_fields
  delimited_again {bytes} is = seen delimited_in (part bytes) is

  -- the message's fields are those of its text, at the offset of the text
  module _ (table : Table) where
    merged_again : {bytes : List ℕ} → content_at n slots ≡ part bytes
        → (p : ℕ) × (merged table n (fields_at at slots) ≡ fields_in table p bytes)
    unfolding slot_fields
    merged_again {bytes} is =
        let p : ℕ = place_at n at slots + length (tag n 2) + length (shortest (length bytes)) in
        (p, seen (parts_in table) (part bytes) is ∙ append-nil (fields_in table p bytes))

  module _ {A : Type 0} {table : Table} {tests : ℕ → List FieldAt → Option WireError}
      {value : List FieldAt → A} (small : length (written slots) < 2 ^ 64) where
    pub part_again : {bytes : List ℕ} {v : A} → (length bytes < 2 ^ 64 → ReadsAs table tests value bytes v)
        → content_at n slots ≡ part bytes → Means tests value (merged table n (fields_at at slots)) v
    part_again {bytes} {v} inner is =
        let len = length-content_at n slots in
        let whole : length (put n (content_at n slots)) ≡ length (writes_delimited n bytes) = ap (λ (c : Content). length (put n c)) is in
        let j = merged_again table is in
        subst (λ (es : List FieldAt). Means tests value es v) (sym j.1)
        ((inner (delimited_small n bytes (omega (arith, len, whole)))).means j.0)

    module _ {writes : A → List ℕ} where
      values : (xs : List A) (p : ℕ) → EachReads table tests value writes xs → length (writes_each_delimited n (map writes xs)) < 2 ^ 64
          → map value (flat_map (message_in table) (delimited_fields n (map writes xs) p)) ≡ xs
      values [] p inner lt = refl
      values (x ∷ xs) p inner lt =
          let P : A → Type 0 = λ y. length (writes y) < 2 ^ 64 → ReadsAs table tests value (writes y) y in
          let len = length-append (writes_delimited n (writes x)) (writes_each_delimited n (map writes xs)) in
          let q : ℕ = p + length (tag n 2) + length (shortest (length (writes x))) in
          let one = ((All-head P x xs inner.each (delimited_small n (writes x) (omega (arith, lt, len)))).means q).value_is in
          let more = values xs (p + length (writes_delimited n (writes x))) (record { each = All-tail P x xs inner.each })
          (omega (arith, lt, len)) in
          ap (λ (y : A). y ∷ map value
          (flat_map (message_in table) (delimited_fields n (map writes xs) (p + length (writes_delimited n (writes x)))))) one
          ∙ ap (λ (ys : List A). x ∷ ys) more

      pub items_again : {xs : List A} → EachReads table tests value writes xs
          → content_at n slots ≡ items (writes_messages writes n xs) (map writes xs)
          → map value (messages table n (fields_at at slots)) ≡ xs
      unfolding slot_fields
      items_again {xs} inner is =
          let len = length-content_at n slots in
          let whole : length (put n (content_at n slots)) ≡ length (writes_messages writes n xs) =
          ap (λ (c : Content). length (put n c)) is in
          let same : length (writes_each_delimited n (map writes xs)) ≡ length (writes_messages writes n xs) =
          ap length (flat_map-map (writes_delimited n) writes xs) in
          ap (λ (fs : List (List FieldAt)). map value fs) (seen (message_in table) (items (writes_messages writes n xs) (map writes xs)) is)
          ∙ values xs (place_at n at slots) inner (omega (arith, len, whole, same))

-- ---- the whole message
items_written : {rows : List Row} {slots : List Slot} → IsWritten rows slots → length (written slots) < 2 ^ 64 → (at : ℕ)
    → fields_of (fits_by rows) at (written slots) ≡ map done (fields_at at slots)
items_written {rows} {slots} w small at = Puts-whole (fits_by rows) at (written slots) (fields_at at slots) (w.puts at small)

pub fields_written : {rows : List Row} {slots : List Slot} → IsWritten rows slots → length (written slots) < 2 ^ 64 → (at : ℕ)
    → fields_in (table_of rows) at (written slots) ≡ fields_at at slots
fields_written {rows} {slots} w small at = ap sound_fields (items_written w small at) ∙ sound_fields-done (fields_at at slots)

pub reads_whole : {A : Type 0} {rows : List Row} {slots : List Slot} {tests : ℕ → List FieldAt → Option WireError}
    {value : List FieldAt → A} {v : A}
    → IsWritten rows slots → length (written slots) < 2 ^ 64
    → ((at : ℕ) → Means tests value (fields_at at slots) v) → ReadsAs (table_of rows) tests value (written slots) v
reads_whole {A} {rows} {slots} {tests} {value} {v} w small means = record {
  clean = λ at. ap (scan (inside_by rows)) (items_written w small at) ∙ scan-done (inside_by rows) (fields_at at slots) (w.clean at small);
  means = λ at. subst (λ (es : List FieldAt). Means tests value es v) (sym (fields_written w small at)) (means at);
}
