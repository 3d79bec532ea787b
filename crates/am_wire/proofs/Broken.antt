-- The reading of bytes that have a fault, and of any bytes.
use Rattle.std.proofs.Common.{◌≡◌, ℕ, ◌≤◌, Bool, true, List, [], length, take, drop, take-append-drop, length-take-le, ◌++◌, Result, Ok, Err, refl, sym, ap, subst, append-nil, ◌∙◌, inl, inr, ◌⊎◌}
use Rattle.std.specs.List.{AllPass}
use Rattle.std.proofs.Math.Seq.{take-length}
use Rattle.am_wire.specs.declared.error.WireError.{WireError}
use Rattle.am_wire.specs.declared.error.WireError.TheVariants.{Truncated}
use Rattle.am_wire.specs.declared.value.WireType.{WireType}
use Rattle.am_wire.specs.Varint.{IsVarint, varint_at}
use Rattle.am_wire.specs.Fields.{FieldAt, fields_of, field_at, row_at, rows_of}
use Rattle.am_wire.specs.Grammar.{IsField, AreFields, IsRow, AreRows, ArePacked, field_fits}
use Rattle.am_wire.specs.Faults.{EndsInNumber, EndsInMessage, IsNumberFault, IsFieldFault, AreFieldsUntil, IsRowFault, AreRowsUntil, ArePackedUntil}
use Rattle.am_wire.specs.Reading.{unpacked}
use Rattle.am_wire.specs.RoundTrip.Varints.{varint_read, varint_filled}
use Rattle.am_wire.specs.RoundTrip.Fields.{field_read}
use Rattle.am_wire.proofs.Found.{IsTaken, IsNumber, field_found, number_found, row_found, ok, err_ok}
use Rattle.am_wire.proofs.Exact.{taken_parts, taken_from, fields_found, fields_read, row_read, rows_found, rows_read, numbers_found}
use Rattle.am_wire.proofs.Stops.{number_fault_found, number_fails, field_fault_found, field_fails, row_fault_found, row_fails}
use Rattle.am_wire.proofs.Until.{until, until_found, until_read, until_is, whole_or_until, pieces_end}

-- ---- numbers
pub no_number : (at : ℕ) (bytes : List ℕ) (fault : WireError) → IsNumberFault at bytes fault → (n : ℕ) (text rest : List ℕ) → bytes ≡ text ++ rest → IsVarint text n → ⊥
no_number at bytes fault stops n text rest is spelled =
    err_ok {A = ℕ × ℕ} fault _ (sym (number_fails at bytes fault stops) ∙ ap (varint_at at) is ∙ varint_read at n text rest spelled)

-- ---- fields
module _ (fits : ℕ → WireType → Bool) (at : ℕ) (bytes : List ℕ) where
  pub fields_until_found : (es : List FieldAt) (fault : WireError) → fields_of fits at bytes ≡ until es fault → AreFieldsUntil fits es fault at bytes
  fields_until_found es fault h =
      let u = until_found (field_at fits) (IsTaken fits) (IsFieldFault fits) (field_found fits) (field_fault_found fits) es fault at bytes h in
      let parts = taken_parts fits es at u.front u.spelled in
      (record { front = u.front; rest = u.rest; bytes_are = u.bytes_are; spelled = parts.0; filled = u.filled; stops = u.stops }, parts.1)

  pub fields_until_read : (es : List FieldAt) (fault : WireError) → AreFieldsUntil fits es fault at bytes → fields_of fits at bytes ≡ until es fault
  fields_until_read es fault (u, fit) =
      until_read (field_at fits) (IsTaken fits) (IsFieldFault fits) (λ e p text h. field_read fits e p text h.0 h.1) (field_fails fits) es fault at bytes
      (record { front = u.front; rest = u.rest; bytes_are = u.bytes_are; spelled = taken_from fits es at u.front u.spelled fit; filled = u.filled; stops = u.stops })

  pub fields_until_one_way : (es others : List FieldAt) (fault other : WireError) → AreFieldsUntil fits es fault at bytes → AreFieldsUntil fits others other at bytes → (es ≡ others) × (fault ≡ other)
  fields_until_one_way es others fault other first second =
      until_is es others fault other (sym (fields_until_read es fault first) ∙ fields_until_read others other second)

  pub fields_whole_or_until : (es others : List FieldAt) (fault : WireError) → AreFields es at bytes → AllPass (field_fits fits) es → AreFieldsUntil fits others fault at bytes → ⊥
  fields_whole_or_until es others fault is fit until_fault =
      whole_or_until es others fault (sym (fields_read fits at bytes es is fit) ∙ fields_until_read others fault until_fault)

  pub fields_always : (es : List FieldAt) × ((AreFields es at bytes × AllPass (field_fits fits) es) ⊎ ((fault : WireError) × AreFieldsUntil fits es fault at bytes))
  fields_always =
      let end = pieces_end (field_at fits) 0 at bytes in
      elim end.1 [
        | inl whole ↦ (end.0, inl (fields_found fits at bytes end.0 whole))
        | inr faulty ↦ (end.0, inr (faulty.0, fields_until_found end.0 faulty.0 faulty.1))
      ]

  -- one field at the front
  pub field_front_found : (e : FieldAt) (len : ℕ) → field_at fits at bytes ≡ Ok (e, len) → (len ≤ length bytes) × IsField e at (take len bytes) × (field_fits fits e ≡ true)
  field_front_found e len h = let f = field_found fits at bytes (e, len) h in (f.within, f.says.0, f.says.1)

  pub field_front_read : (e : FieldAt) (len : ℕ) → (len ≤ length bytes) × IsField e at (take len bytes) × (field_fits fits e ≡ true) → field_at fits at bytes ≡ Ok (e, len)
  field_front_read e len (within, is, fit) =
      let size : length (take len bytes) ≡ len = length-take-le len bytes within in
      let whole : List ℕ → Result (FieldAt × ℕ) WireError = field_at fits at in
      ap whole (sym (take-append-drop len bytes)) ∙ (field_read fits e at (take len bytes) is fit).reads (drop len bytes) ∙ ap (λ (n : ℕ). ok (e, n)) size

  pub no_field : (fault : WireError) → IsFieldFault fits at bytes fault → (e : FieldAt) (text rest : List ℕ) → bytes ≡ text ++ rest → IsField e at text → field_fits fits e ≡ true → ⊥
  no_field fault stops e text rest is spelled fit =
      err_ok {A = FieldAt × ℕ} fault _ (sym (field_fails fits at bytes fault stops) ∙ ap (field_at fits at) is ∙ (field_read fits e at text spelled fit).reads rest)

-- ---- rows
module _ (bytes : List ℕ) where
  pub rows_until_found : (messages : List (List ℕ)) (fault : WireError) → rows_of bytes ≡ until messages fault → AreRowsUntil messages fault bytes
  rows_until_found messages fault h = until_found row_at IsRow IsRowFault row_found row_fault_found messages fault 0 bytes h

  pub rows_until_read : (messages : List (List ℕ)) (fault : WireError) → AreRowsUntil messages fault bytes → rows_of bytes ≡ until messages fault
  rows_until_read messages fault is = until_read row_at IsRow IsRowFault row_read row_fails messages fault 0 bytes is

  pub rows_until_one_way : (messages others : List (List ℕ)) (fault other : WireError) → AreRowsUntil messages fault bytes → AreRowsUntil others other bytes → (messages ≡ others) × (fault ≡ other)
  rows_until_one_way messages others fault other first second =
      until_is messages others fault other (sym (rows_until_read messages fault first) ∙ rows_until_read others other second)

  pub rows_whole_or_until : (messages others : List (List ℕ)) (fault : WireError) → AreRows messages bytes → AreRowsUntil others fault bytes → ⊥
  rows_whole_or_until messages others fault is until_fault =
      whole_or_until messages others fault (sym (rows_read bytes messages is) ∙ rows_until_read others fault until_fault)

  pub rows_always : (messages : List (List ℕ)) × (AreRows messages bytes ⊎ ((fault : WireError) × AreRowsUntil messages fault bytes))
  rows_always =
      let end = pieces_end row_at 0 0 bytes in
      elim end.1 [
        | inl whole ↦ (end.0, inl (rows_found bytes end.0 whole))
        | inr faulty ↦ (end.0, inr (faulty.0, rows_until_found end.0 faulty.0 faulty.1))
      ]

  -- one message at the front
  pub row_front_found : (at : ℕ) (message : List ℕ) (len : ℕ) → row_at at bytes ≡ Ok (message, len) → (len ≤ length bytes) × IsRow message at (take len bytes)
  row_front_found at message len h = let f = row_found at bytes (message, len) h in (f.within, f.says)

  pub row_front_read : (at : ℕ) (message : List ℕ) (len : ℕ) → (len ≤ length bytes) × IsRow message at (take len bytes) → row_at at bytes ≡ Ok (message, len)
  row_front_read at message len (within, is) =
      let size : length (take len bytes) ≡ len = length-take-le len bytes within in
      let whole : List ℕ → Result (List ℕ × ℕ) WireError = row_at at in
      ap whole (sym (take-append-drop len bytes)) ∙ (row_read message at (take len bytes) is).reads (drop len bytes) ∙ ap (λ (n : ℕ). ok (message, n)) size

  -- a row that is whole, and one that is not
  pub whole_row_found : (at : ℕ) (message : List ℕ) → row_at at bytes ≡ Ok (message, length bytes) → IsRow message at bytes
  whole_row_found at message h = subst (λ (text : List ℕ). IsRow message at text) (take-length bytes) (row_front_found at message (length bytes) h).1

  pub whole_row_read : (at : ℕ) (message : List ℕ) → IsRow message at bytes → row_at at bytes ≡ Ok (message, length bytes)
  whole_row_read at message is =
      let whole : List ℕ → Result (List ℕ × ℕ) WireError = row_at at in
      ap whole (sym (append-nil bytes)) ∙ (row_read message at bytes is).reads []

  pub cut_row_found : (at : ℕ) → row_at at bytes ≡ Err (Truncated at) → EndsInNumber bytes ⊎ EndsInMessage bytes
  cut_row_found at h = (row_fault_found at bytes (Truncated at) h).1

  pub cut_row_read : (at : ℕ) → EndsInNumber bytes ⊎ EndsInMessage bytes → row_at at bytes ≡ Err (Truncated at)
  cut_row_read at ends = row_fails at bytes (Truncated at) (refl, ends)

  pub no_message : (at : ℕ) (fault : WireError) → IsRowFault at bytes fault → (message text rest : List ℕ) → bytes ≡ text ++ rest → IsRow message at text → ⊥
  no_message at fault stops message text rest is spelled =
      err_ok {A = List ℕ × ℕ} fault _ (sym (row_fails at bytes fault stops) ∙ ap (row_at at) is ∙ (row_read message at text spelled).reads rest)

-- ---- packed numbers
module _ (tag : ℕ) (bytes : List ℕ) where
  abbrev front : ℕ → List ℕ → Result (ℕ × ℕ) WireError
  front at text = varint_at tag text

  abbrev IsFault : ℕ → List ℕ → WireError → Type 0
  IsFault at text e = IsNumberFault tag text e

  pub numbers_until_found : (numbers : List ℕ) (fault : WireError) → unpacked tag bytes ≡ until numbers fault → ArePackedUntil tag numbers fault bytes
  numbers_until_found numbers fault h = until_found front IsNumber IsFault (number_found tag) (λ at. number_fault_found tag) numbers fault 0 bytes h

  pub numbers_until_read : (numbers : List ℕ) (fault : WireError) → ArePackedUntil tag numbers fault bytes → unpacked tag bytes ≡ until numbers fault
  numbers_until_read numbers fault is =
      until_read front IsNumber IsFault (λ n at text v. record { filled = varint_filled text n v; reads = λ rest. varint_read tag n text rest v }) (λ at. number_fails tag) numbers fault 0 bytes is

  pub numbers_until_one_way : (numbers others : List ℕ) (fault other : WireError) → ArePackedUntil tag numbers fault bytes → ArePackedUntil tag others other bytes → (numbers ≡ others) × (fault ≡ other)
  numbers_until_one_way numbers others fault other first second =
      until_is numbers others fault other (sym (numbers_until_read numbers fault first) ∙ numbers_until_read others other second)

  pub numbers_always : (numbers : List ℕ) × (ArePacked numbers bytes ⊎ ((fault : WireError) × ArePackedUntil tag numbers fault bytes))
  numbers_always =
      let end = pieces_end front 0 0 bytes in
      elim end.1 [
        | inl whole ↦ (end.0, inl (numbers_found tag bytes end.0 whole))
        | inr faulty ↦ (end.0, inr (faulty.0, numbers_until_found end.0 faulty.0 faulty.1))
      ]
