-- The fields of a message that its reader doesn't know, byte for byte.
use Rattle.std.specs.Prelude.{◌≡◌, ⊤, ℕ, Bool, false, List, [], ◌∷◌, ◌++◌, All, Result, Ok, Err, take, ◌==◌, if◌then◌else◌}
use Rattle.std.specs.List.{flat_map, list_any}
use Rattle.am_wire.specs.declared.error.WireError.{WireError}
use Rattle.am_wire.specs.declared.unknown.Unknown.{Unknown}
use Rattle.am_wire.specs.declared.unknown.Unknown.TheVariants.{Drop, Keep}
use Rattle.am_wire.specs.declared.unknown.UnknownFields.{UnknownFields}
use Rattle.am_wire.specs.Fields.{FieldAt, ◌>>=◌, field_at, pieces, any}
use Rattle.am_wire.specs.Expiring.{writes_expiring}
use Rattle.am_wire.specs.Grammar.{AreFields}
use Rattle.am_wire.specs.Reading.{until_fault, picked, delimited_in}

-- the reader knows the number
abbrev pub knows : List ℕ → ℕ → Bool
knows known number = list_any (λ k. k == number) known

-- the bytes of the field at the front, which are none if it is known, and its length
unfoldable pub unknown_at : List ℕ → List ℕ → Result (List ℕ × ℕ) WireError
unknown_at known bytes = do
  field ← field_at any 0 bytes
  Ok (if knows known field.0.number then [] else take field.1 bytes, field.1)

-- the unknown fields of a message, byte for byte, in their order
unfoldable pub unknown_in : List ℕ → List ℕ → List ℕ
unknown_in known bytes = flat_map (λ text. text) (until_fault (pieces (λ at text. unknown_at known text) 0 0 bytes))

-- the unknown fields of all payloads with this number, one after another
abbrev pub unknown_inside : List ℕ → ℕ → List FieldAt → List ℕ
unknown_inside known n es = flat_map (unknown_in known) (picked delimited_in n es)

-- no unknown fields, inside or outside the message
abbrev pub none : UnknownFields
none = record { inner = []; outer = [] }

-- the known numbers of a message with its moment: 1 and 2
abbrev pub expiring_numbers : List ℕ
expiring_numbers = 1 ∷ 2 ∷ []

-- the unknown fields that are kept of a message with its moment, by its fields and bytes, if the message knows these numbers
abbrev pub unknown_fields : Unknown → List ℕ → List FieldAt → List ℕ → UnknownFields
unknown_fields Drop known es bytes = none
unknown_fields Keep known es bytes = record { inner = unknown_inside known 1 es; outer = unknown_in expiring_numbers bytes }

-- the field is not known
abbrev pub IsOther : List ℕ → FieldAt → Type 0
IsOther known e = knows known e.number ≡ false

-- none of the fields is known
abbrev pub AllUnknown : List ℕ → List FieldAt → Type 0
AllUnknown known es = All (IsOther known) es

-- the bytes, which begin at the offset `at`, are fields, none of which is known
pub record AreUnknownAt (known : List ℕ) (bytes : List ℕ) (at : ℕ) : Type 0 where
  pub fields : List FieldAt
  pub spelled : AreFields fields at bytes
  pub unknown : AllUnknown known fields

-- the bytes are fields at any offset, none of which is known
abbrev pub AreUnknown : List ℕ → List ℕ → Type 0
AreUnknown known bytes = (at : ℕ) → AreUnknownAt known bytes at

-- the kept fields are unknown ones: of a message that knows these numbers, and of those beside it
pub record IsUnknown (known : List ℕ) (fields : UnknownFields) : Type 0 where
  pub inner : AreUnknown known fields.inner
  pub outer : AreUnknown expiring_numbers fields.outer

-- the text of a message with its moment, with the message's unknown fields behind it and the others behind both
abbrev pub writes_with : UnknownFields → List ℕ → ℕ → List ℕ
writes_with unknown text expires_at = writes_expiring (text ++ unknown.inner) expires_at ++ unknown.outer

-- the result of reading, without the value's unknown fields
abbrev pub plainly : {A : Type 0} → (A → A) → Result A WireError → Result A WireError
plainly plain (Ok x) = Ok (plain x)
plainly plain (Err e) = Err e

-- the value loses nothing: unknown fields are kept, or it has none
abbrev pub StaysWhole : {A : Type 0} → (A → A) → Unknown → A → Type 0
StaysWhole plain Keep v = ⊤
StaysWhole plain Drop v = plain v ≡ v
