-- The faults of bytes with no number, no field or no message of a row at their front. These are relations on whole texts,
-- as the grammar is.
use Rattle.std.specs.Prelude.{◌≡◌, ℕ, ◌+◌, ◌*◌, ◌^◌, ◌<◌, ◌≤◌, Bool, true, false, List, length, take, ◌++◌, slice_index, All, ◌⊎◌}
use Rattle.std.specs.List.{AllPass}
use Rattle.am_wire.specs.Limits.{most}
use Rattle.am_wire.specs.declared.error.WireError.{WireError}
use Rattle.am_wire.specs.declared.error.WireError.TheVariants.{Truncated, LongVarint, FieldNumber, WrongType, TooLarge}
use Rattle.am_wire.specs.declared.error.WireError.TheVariants as errors
use Rattle.am_wire.specs.declared.value.WireType.{WireType}
use Rattle.am_wire.specs.declared.value.WireType.TheVariants as kinds
use Rattle.am_wire.specs.Varint.{IsVarint}
use Rattle.am_wire.specs.Fields.{FieldAt}
use Rattle.am_wire.specs.Grammar.{AreSpelled, IsField, IsRow, wire_code, field_fits}

-- The bytes are the texts of these items, followed by at least one more byte; no item begins there, for this fault.
pub record AreSpelledUntil {A : Type 0} (Spells : A → ℕ → List ℕ → Type 0) (Stops : ℕ → List ℕ → WireError → Type 0)
    (xs : List A) (fault : WireError) (at : ℕ) (bytes : List ℕ) : Type 0 where
  pub front : List ℕ
  pub rest : List ℕ
  pub bytes_are : bytes ≡ front ++ rest
  pub spelled : AreSpelled Spells xs at front
  pub filled : 0 < length rest
  pub stops : Stops (at + length front) rest fault

-- ---- numbers
-- the bytes end inside a number: each says that another follows, and there are too few of them
abbrev pub EndsInNumber : List ℕ → Type 0
EndsInNumber bytes = (length bytes < 10) × All (λ b. 128 ≤ b) bytes

-- a number of more than 64 bits: nine bytes say that another follows, and the tenth is not 0 or 1
abbrev pub HasLongNumber : List ℕ → Type 0
HasLongNumber bytes = (9 < length bytes) × All (λ b. 128 ≤ b) (take 9 bytes) × (2 ≤ slice_index bytes 9)

-- there is no number at the front, for this fault, which is reported at the offset `at`
abbrev pub IsNumberFault : ℕ → List ℕ → WireError → Type 0
IsNumberFault at bytes (Truncated place) = (place ≡ at) × EndsInNumber bytes
IsNumberFault at bytes (LongVarint place) = (place ≡ at) × HasLongNumber bytes
IsNumberFault at bytes fault = ⊥

-- there is a number at the front, and `Says` holds of it and of the bytes behind it
pub record HasNumber (Says : ℕ → List ℕ → Type 0) (bytes : List ℕ) : Type 0 where
  pub number : ℕ
  pub text : List ℕ
  pub behind : List ℕ
  pub bytes_are : bytes ≡ text ++ behind
  pub text_is : IsVarint text number
  pub says : Says number behind

-- there is a length at the front, and fewer bytes than that behind it
abbrev pub PassesEnd : List ℕ → Type 0
PassesEnd bytes = HasNumber (λ size behind. length behind < size) bytes

-- ---- fields
-- there is a tag at the front, and `Says` holds of its number, of its wire type's code and of the bytes behind it
pub record HasTag (Says : ℕ → ℕ → List ℕ → Type 0) (bytes : List ℕ) : Type 0 where
  pub number : ℕ
  pub code : ℕ
  pub text : List ℕ
  pub behind : List ℕ
  pub bytes_are : bytes ≡ text ++ behind
  pub text_is : IsVarint text (number * 8 + code)
  pub code_is : code < 8
  pub says : Says number code behind

-- the number is one that a field may have
abbrev pub IsFieldNumber : ℕ → Type 0
IsFieldNumber number = (0 < number) × (number < 2 ^ 29)

-- the number is one that no field may have
abbrev pub IsNoFieldNumber : ℕ → Type 0
IsNoFieldNumber number = (number ≡ 0) ⊎ (2 ^ 29 ≤ number)

-- the code is that of no wire type
abbrev pub IsNoWireType : ℕ → Type 0
IsNoWireType code = (code ≡ 3) ⊎ (code ≡ 4) ⊎ (code ≡ 6) ⊎ (code ≡ 7)

-- the bytes end inside a payload of the wire type
abbrev pub EndsInPayload : WireType → List ℕ → Type 0
EndsInPayload kinds.Varint bytes = EndsInNumber bytes
EndsInPayload kinds.Eight bytes = length bytes < 8
EndsInPayload kinds.Four bytes = length bytes < 4
EndsInPayload kinds.Bytes bytes = EndsInNumber bytes ⊎ PassesEnd bytes

-- the payload is a number, or has a length, of more than 64 bits
abbrev pub HasLongPayload : WireType → List ℕ → Type 0
HasLongPayload kinds.Varint bytes = HasLongNumber bytes
HasLongPayload kinds.Bytes bytes = HasLongNumber bytes
HasLongPayload kind bytes = ⊥

-- there is a tag at the front whose number may have its wire type, and `Says` holds of the bytes behind it
abbrev pub HasPayload : (ℕ → WireType → Bool) → (WireType → List ℕ → Type 0) → List ℕ → Type 0
HasPayload fits Says bytes =
    HasTag (λ number code behind. IsFieldNumber number
    × ((kind : WireType) × (code ≡ wire_code kind) × (fits number kind ≡ true) × Says kind behind)) bytes

-- there is a tag at the front whose number may not have its wire type
abbrev pub HasWrongType : (ℕ → WireType → Bool) → List ℕ → Type 0
HasWrongType fits bytes =
    HasTag (λ number code behind. IsFieldNumber number
    × ((kind : WireType) × (code ≡ wire_code kind) × (fits number kind ≡ false))) bytes

-- There is no field at the front, for this fault, if `fits` says which wire types a number may have. The number is checked
-- first, then its wire type, then whether they fit, then the payload.
abbrev pub IsFieldFault : (ℕ → WireType → Bool) → ℕ → List ℕ → WireError → Type 0
IsFieldFault fits at bytes (Truncated place) = (place ≡ at) × (EndsInNumber bytes ⊎ HasPayload fits EndsInPayload bytes)
IsFieldFault fits at bytes (LongVarint place) = (place ≡ at) × (HasLongNumber bytes ⊎ HasPayload fits HasLongPayload bytes)
IsFieldFault fits at bytes (FieldNumber place) = (place ≡ at) × HasTag (λ number code behind. IsNoFieldNumber number) bytes
IsFieldFault fits at bytes (errors.WireType place) =
    (place ≡ at) × HasTag (λ number code behind. IsFieldNumber number × IsNoWireType code) bytes
IsFieldFault fits at bytes (WrongType place) = (place ≡ at) × HasWrongType fits bytes
IsFieldFault fits at bytes fault = ⊥

-- the bytes are these fields, each of which may have its wire type, followed by this fault
abbrev pub AreFieldsUntil : (ℕ → WireType → Bool) → List FieldAt → WireError → ℕ → List ℕ → Type 0
AreFieldsUntil fits es fault at bytes = AreSpelledUntil IsField (IsFieldFault fits) es fault at bytes × AllPass (field_fits fits) es

-- ---- rows
-- there is a length at the front that is more than a message may have
abbrev pub HasLargeLength : List ℕ → Type 0
HasLargeLength bytes = HasNumber (λ size behind. most < size) bytes

-- there is a length at the front that a message may have, and fewer bytes than that behind it
abbrev pub EndsInMessage : List ℕ → Type 0
EndsInMessage bytes = HasNumber (λ size behind. (size ≤ most) × (length behind < size)) bytes

-- there is no message of a row at the front, for this fault
abbrev pub IsRowFault : ℕ → List ℕ → WireError → Type 0
IsRowFault at bytes (Truncated place) = (place ≡ at) × (EndsInNumber bytes ⊎ EndsInMessage bytes)
IsRowFault at bytes (LongVarint place) = (place ≡ at) × HasLongNumber bytes
IsRowFault at bytes TooLarge = HasLargeLength bytes
IsRowFault at bytes fault = ⊥

-- the bytes are a row of these messages, followed by this fault
abbrev pub AreRowsUntil : List (List ℕ) → WireError → List ℕ → Type 0
AreRowsUntil messages fault bytes = AreSpelledUntil IsRow IsRowFault messages fault 0 bytes

-- ---- packed numbers
-- the bytes are these numbers, followed by this fault, which is reported at the offset of the field's tag
abbrev pub ArePackedUntil : ℕ → List ℕ → WireError → List ℕ → Type 0
ArePackedUntil tag numbers fault bytes =
    AreSpelledUntil (λ n at text. IsVarint text n) (λ at text e. IsNumberFault tag text e) numbers fault 0 bytes
