-- The result of reading a message from the list of its fields: its first fault, or its value.
use Rattle.std.specs.Prelude.{◌≡◌, ◌≢◌, ℕ, Bool, true, false, List, [], ◌∷◌, Option, Some, None, Result, Ok, Err, ◌==◌, if◌then◌else◌}
use Rattle.std.specs.List.{flat_map}
use Rattle.std.specs.Str.{is_utf8}
use Rattle.am_wire.specs.declared.error.WireError.{WireError}
use Rattle.am_wire.specs.declared.error.WireError.TheVariants as errors
use Rattle.am_wire.specs.declared.value.WireType.{WireType}
use Rattle.am_wire.specs.declared.value.WireType.TheVariants as kinds
use Rattle.am_wire.specs.Varint.{varint_at}
use Rattle.am_wire.specs.Fields.{varint, delimited_at, FieldAt, fields_of, pieces}

-- ---- faults

-- the first of two faults
infixl 10 ◌then◌
abbrev pub ◌then◌ : Option WireError → Option WireError → Option WireError
(Some e) then later = Some e
None then later = later

-- The first fault of fields that are read one after another; `inside` gives the fault inside a field.
abbrev pub scan : (FieldAt → Option WireError) → List (Result FieldAt WireError) → Option WireError
scan inside [] = None
scan inside (Ok e ∷ items) = inside e then scan inside items
scan inside (Err fault ∷ items) = Some fault

-- the fields before the first fault
abbrev pub sound_fields : List (Result FieldAt WireError) → List FieldAt
sound_fields [] = []
sound_fields (Ok e ∷ items) = e ∷ sound_fields items
sound_fields (Err fault ∷ items) = []

-- a call fails with the first fault, unless memory ran out
abbrev pub FailsUnlessMemory : WireError → Option WireError → Type 0
FailsUnlessMemory e fault = e ≢ errors.Memory → fault ≡ Some e

-- ---- a message: the wire types that its numbers may have, and the fault inside a field
pub record Table : Type 0 where
  pub fits : ℕ → WireType → Bool
  pub inside : FieldAt → Option WireError

-- the fields of bytes before the first fault
abbrev pub fields_in : Table → ℕ → List ℕ → List FieldAt
fields_in table at bytes = sound_fields (fields_of table.fits at bytes)

-- the first fault in bytes
abbrev pub faults_in : Table → ℕ → List ℕ → Option WireError
faults_in table at bytes = scan table.inside (fields_of table.fits at bytes)

-- the fault that `fault` finds inside a payload of bytes, which begin at an offset; other payloads have none
abbrev pub in_delimited : (ℕ → List ℕ → Option WireError) → FieldAt → Option WireError
in_delimited fault e = elim e.payload [ delimited_at at bytes ↦ fault at bytes | _ ↦ None ]

-- the fault inside a text
abbrev pub text_fault : FieldAt → Option WireError
text_fault e = in_delimited (λ at bytes. if is_utf8 bytes then None else Some (errors.NotUtf8 e.at)) e

-- the fault inside a message that is held once, whose own tests come later
abbrev pub part_fault : Table → FieldAt → Option WireError
part_fault table e = in_delimited (faults_in table) e

-- the fault inside one of many messages, which ends with its payload; its tests are reported at its tag
abbrev pub item_fault : Table → (ℕ → List FieldAt → Option WireError) → FieldAt → Option WireError
item_fault table tests e = in_delimited (λ at bytes. faults_in table at bytes then tests e.at (fields_in table at bytes)) e

-- ---- values

-- the values that `view` gives for the fields with this number, in order
abbrev pub picked : {A : Type 0} → (FieldAt → List A) → ℕ → List FieldAt → List A
picked view n es = flat_map (λ e. if e.number == n then view e else []) es

-- the last item of the list, or d if it is empty
abbrev pub last_or : {A : Type 0} → A → List A → A
last_or d [] = d
last_or d (x ∷ xs) = last_or x xs

-- the number in a field, if it holds one
abbrev pub varint_in : FieldAt → List ℕ
varint_in e = elim e.payload [ varint n ↦ n ∷ [] | _ ↦ [] ]

-- the bytes in a field, if it holds bytes
abbrev pub delimited_in : FieldAt → List (List ℕ)
delimited_in e = elim e.payload [ delimited_at at bytes ↦ bytes ∷ [] | _ ↦ [] ]

-- the message in a field, as its fields, if it holds bytes
abbrev pub message_in : Table → FieldAt → List (List FieldAt)
message_in table e = elim e.payload [ delimited_at at bytes ↦ fields_in table at bytes ∷ [] | _ ↦ [] ]

-- the message in a field, as one list of fields, so that several payloads can be merged
abbrev pub parts_in : Table → FieldAt → List FieldAt
parts_in table e = elim e.payload [ delimited_at at bytes ↦ fields_in table at bytes | _ ↦ [] ]

-- the table with these wire types and these faults
abbrev pub table_at : (ℕ → WireType → Bool) → (FieldAt → Option WireError) → Table
table_at fits inside = record { fits = fits; inside = inside }

-- the number that counts if it is given more than once, which is the last; a missing one is 0
abbrev pub last_number : ℕ → List FieldAt → ℕ
last_number n es = last_or 0 (picked varint_in n es)

-- the text that counts if it is given more than once, which is the last; a missing one is empty
abbrev pub last_text : ℕ → List FieldAt → List ℕ
last_text n es = last_or [] (picked delimited_in n es)

-- the messages with this number, each as its fields
abbrev pub messages : Table → ℕ → List FieldAt → List (List FieldAt)
messages table n es = picked (message_in table) n es

-- the fields of the message with this number, whose payloads are merged
abbrev pub merged : Table → ℕ → List FieldAt → List FieldAt
merged table n es = picked (parts_in table) n es

-- ---- a message's table: one row for each number
pub record Row : Type 0 where
  pub row_number : ℕ
  pub takes : WireType → Bool
  pub row_inside : FieldAt → Option WireError

-- the wire type is that of a number
abbrev pub is_varint : WireType → Bool
is_varint kind = elim kind [ kinds.Varint ↦ true | _ ↦ false ]

-- the wire type is that of bytes
abbrev pub is_bytes : WireType → Bool
is_bytes kind = elim kind [ kinds.Bytes ↦ true | _ ↦ false ]

-- the row of a number
abbrev pub varint_row : ℕ → Row
varint_row n = record { row_number = n; takes = is_varint; row_inside = λ e. None }

-- the row of a text
abbrev pub text_row : ℕ → Row
text_row n = record { row_number = n; takes = is_bytes; row_inside = text_fault }

-- the row of a message that is held once
abbrev pub part_row : ℕ → Table → Row
part_row n table = record { row_number = n; takes = is_bytes; row_inside = part_fault table }

-- the row of one of many messages
abbrev pub item_row : ℕ → Table → (ℕ → List FieldAt → Option WireError) → Row
item_row n table tests = record { row_number = n; takes = is_bytes; row_inside = item_fault table tests }

-- the wire types that these rows allow; an unknown number may have any
abbrev pub fits_by : List Row → ℕ → WireType → Bool
fits_by [] n kind = true
fits_by (row ∷ rows) n kind = if n == row.row_number then row.takes kind else fits_by rows n kind

-- the fault inside a field that its row finds; an unknown number has none
abbrev pub inside_by : List Row → FieldAt → Option WireError
inside_by [] e = None
inside_by (row ∷ rows) e = if e.number == row.row_number then row.row_inside e else inside_by rows e

-- the table of these rows
abbrev pub table_of : List Row → Table
table_of rows = record { fits = fits_by rows; inside = inside_by rows }

-- ---- a whole message: the first fault in its fields, then its tests, then its value. Tests that aren't about one field of
-- the message are reported at `place`.
abbrev pub fault_or_value : {A : Type 0} → Option WireError → A → Result A WireError
fault_or_value (Some fault) value = Err fault
fault_or_value None value = Ok value

-- the result of reading a message
abbrev pub read_by : {A : Type 0} → Table → (ℕ → List FieldAt → Option WireError) → (List FieldAt → A) → ℕ → ℕ → List ℕ → Result A WireError
read_by table tests value place at bytes =
    fault_or_value (faults_in table at bytes then tests place (fields_in table at bytes)) (value (fields_in table at bytes))

-- a call returns the result of reading, unless memory ran out
abbrev pub GivesUnlessMemory : {A : Type 0} → Result A WireError → Result A WireError → Type 0
GivesUnlessMemory (Ok x) read = read ≡ Ok x
GivesUnlessMemory (Err e) read = e ≢ errors.Memory → read ≡ Err e

-- the offset of a field, if it holds a number
abbrev pub varint_place : FieldAt → List ℕ
varint_place e = elim e.payload [ varint n ↦ e.at ∷ [] | _ ↦ [] ]

-- the offset of a field, if it holds bytes
abbrev pub delimited_place : FieldAt → List ℕ
delimited_place e = elim e.payload [ delimited_at at bytes ↦ e.at ∷ [] | _ ↦ [] ]

-- the offset of the last field with this number that holds a number
abbrev pub last_number_place : ℕ → List FieldAt → ℕ
last_number_place n es = last_or 0 (picked varint_place n es)

-- the offset of the last field with this number that holds bytes
abbrev pub last_place : ℕ → List FieldAt → ℕ
last_place n es = last_or 0 (picked delimited_place n es)

-- true, if the field holds bytes
abbrev pub delimited_given : FieldAt → List Bool
delimited_given e = elim e.payload [ delimited_at at bytes ↦ true ∷ [] | _ ↦ [] ]

-- the message with this number is given
abbrev pub is_given : ℕ → List FieldAt → Bool
is_given n es = last_or false (picked delimited_given n es)

-- ---- lists of numbers, one to a field or packed
-- the items before the first fault
abbrev pub until_fault : {A : Type 0} → List (Result A WireError) → List A
until_fault [] = []
until_fault (Ok x ∷ xs) = x ∷ until_fault xs
until_fault (Err e ∷ xs) = []

-- the first fault
abbrev pub first_fault : {A : Type 0} → List (Result A WireError) → Option WireError
first_fault [] = None
first_fault (Ok x ∷ xs) = first_fault xs
first_fault (Err e ∷ xs) = Some e

-- the numbers packed in bytes; a fault is reported at the field's tag
abbrev pub unpacked : ℕ → List ℕ → List (Result ℕ WireError)
unpacked tag bytes = pieces (λ at text. varint_at tag text) 0 0 bytes

-- the numbers in a field, single or packed
abbrev pub numbers_in : FieldAt → List ℕ
numbers_in e = elim e.payload [ varint n ↦ n ∷ [] | delimited_at at bytes ↦ until_fault (unpacked e.at bytes) | _ ↦ [] ]

-- the wire type is one of a list of numbers: that of single numbers or that of packed ones
abbrev pub is_varint_or_bytes : WireType → Bool
is_varint_or_bytes kind = elim kind [ kinds.Varint ↦ true | kinds.Bytes ↦ true | _ ↦ false ]

-- the fault inside packed numbers
abbrev pub numbers_fault : FieldAt → Option WireError
numbers_fault e = in_delimited (λ at bytes. first_fault (unpacked e.at bytes)) e

-- the row of a list of numbers
abbrev pub numbers_row : ℕ → Row
numbers_row n = record { row_number = n; takes = is_varint_or_bytes; row_inside = numbers_fault }

-- the row of bytes that need not be a text
abbrev pub blob_row : ℕ → Row
blob_row n = record { row_number = n; takes = is_bytes; row_inside = λ e. None }

-- all numbers in the fields with this number, in order
abbrev pub all_numbers : ℕ → List FieldAt → List ℕ
all_numbers n es = picked numbers_in n es
