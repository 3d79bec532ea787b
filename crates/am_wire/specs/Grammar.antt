-- The spellings of numbers, fields and messages: relations on whole texts, while the code reads byte by byte.
use Rattle.std.specs.Prelude.{◌≡◌, ℕ, ◌+◌, ◌*◌, ◌^◌, ◌<◌, ◌≤◌, Bool, List, [], ◌∷◌, ◌++◌, length}
use Rattle.std.specs.Int.{w32, w64, from_le_bytes}
use Rattle.am_wire.specs.declared.value.WireType.{WireType}
use Rattle.am_wire.specs.declared.value.WireType.TheVariants as kinds
use Rattle.am_wire.specs.Limits.{most}
use Rattle.am_wire.specs.Varint.{IsVarint}
use Rattle.am_wire.specs.Fields.{Payload, varint, eight, four, delimited_at, FieldAt}

-- The bytes are the texts of these items, one after another, and begin at the offset `at`.
abbrev pub AreSpelled : {A : Type 0} → (A → ℕ → List ℕ → Type 0) → List A → ℕ → List ℕ → Type 0
AreSpelled Spells [] at bytes = bytes ≡ []
AreSpelled Spells (x ∷ xs) at bytes =
    (text : List ℕ) × (rest : List ℕ) × (bytes ≡ text ++ rest) × Spells x at text × AreSpelled Spells xs (at + length text) rest

-- ---- fields
-- the text is these bytes behind their length, and they begin at the offset `inside`
pub record IsDelimitedAt (inside : ℕ) (bytes : List ℕ) (at : ℕ) (text : List ℕ) : Type 0 where
  pub size : List ℕ
  pub size_is : IsVarint size (length bytes)
  pub text_is : text ≡ size ++ bytes
  pub inside_is : inside ≡ at + length size

-- the text is the payload: a number, eight or four bytes with the lowest first, or bytes behind their length
abbrev pub IsPayload : Payload → ℕ → List ℕ → Type 0
IsPayload (varint n) at text = IsVarint text n
IsPayload (eight n) at text = (length text ≡ 8) × (n ≡ from_le_bytes w64 text)
IsPayload (four n) at text = (length text ≡ 4) × (n ≡ from_le_bytes w32 text)
IsPayload (delimited_at inside bytes) at text = IsDelimitedAt inside bytes at text

-- the wire type of a payload
abbrev pub wire_type_of : Payload → WireType
wire_type_of (varint n) = kinds.Varint
wire_type_of (eight n) = kinds.Eight
wire_type_of (delimited_at inside bytes) = kinds.Bytes
wire_type_of (four n) = kinds.Four

-- the code of a wire type in a tag
abbrev pub wire_code : WireType → ℕ
wire_code kinds.Varint = 0
wire_code kinds.Eight = 1
wire_code kinds.Bytes = 2
wire_code kinds.Four = 5

-- the text is the field's tag, which gives its number and wire type, and its payload
pub record IsField (e : FieldAt) (at : ℕ) (text : List ℕ) : Type 0 where
  pub tag : List ℕ
  pub payload : List ℕ
  pub text_is : text ≡ tag ++ payload
  pub at_is : e.at ≡ at
  pub above_none : 0 < e.number
  pub below_all : e.number < 2 ^ 29
  pub tag_is : IsVarint tag (e.number * 8 + wire_code (wire_type_of e.payload))
  pub payload_is : IsPayload e.payload (at + length tag) payload

-- the bytes are these fields
abbrev pub AreFields : List FieldAt → ℕ → List ℕ → Type 0
AreFields es at bytes = AreSpelled IsField es at bytes

-- the number may have the field's wire type
abbrev pub field_fits : (ℕ → WireType → Bool) → FieldAt → Bool
field_fits fits e = fits e.number (wire_type_of e.payload)

-- ---- rows
-- the text is the message's length, which is not too large, and the message
pub record IsRow (message : List ℕ) (at : ℕ) (text : List ℕ) : Type 0 where
  pub size : List ℕ
  pub size_is : IsVarint size (length message)
  pub text_is : text ≡ size ++ message
  pub not_large : length message ≤ most

-- the bytes are a row of these messages
abbrev pub AreRows : List (List ℕ) → List ℕ → Type 0
AreRows messages bytes = AreSpelled IsRow messages 0 bytes

-- ---- packed numbers
abbrev pub ArePacked : List ℕ → List ℕ → Type 0
ArePacked numbers bytes = AreSpelled (λ n at text. IsVarint text n) numbers 0 bytes
