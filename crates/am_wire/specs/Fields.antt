-- Bytes as a list of fields.
use Rattle.std.specs.Prelude.{ℕ, zero, suc, ◌+◌, ◌-◌, ◌/◌, ◌%◌, ◌^◌, Bool, true, List, [], ◌∷◌, length, take}
use Rattle.std.specs.Prelude.{drop, Result, Ok, Err, nat_lt, ◌==◌, ◌&&◌, if◌then◌else◌}
use Rattle.std.specs.Int.{w32, w64, from_le_bytes}
use Rattle.am_wire.specs.declared.error.WireError.{WireError}
use Rattle.am_wire.specs.declared.error.WireError.TheVariants.{Truncated, LongVarint, FieldNumber, WrongType, TooLarge}
use Rattle.am_wire.specs.declared.error.WireError.TheVariants as errors
use Rattle.am_wire.specs.declared.value.WireType.{WireType}
use Rattle.am_wire.specs.declared.value.WireType.TheVariants as kinds
use Rattle.am_wire.specs.declared.value.Field.{Field}
use Rattle.am_wire.specs.declared.value.Value.{Value}
use Rattle.am_wire.specs.declared.value.Value.TheVariants as values
use Rattle.am_wire.specs.Limits.{most}
use Rattle.am_wire.specs.Varint.{varint_at}

-- the payload behind a tag; for bytes also the offset at which they begin
pub data Payload : Type 0 where
  varint : ℕ → Payload
  eight : ℕ → Payload
  four : ℕ → Payload
  delimited_at : ℕ → List ℕ → Payload

-- a field, and the offset of its tag
pub record FieldAt : Type 0 where
  pub number : ℕ
  pub payload : Payload
  pub at : ℕ

-- a payload of the code, without its place in memory; its bytes begin at the offset `inside`
abbrev pub payload_of : ℕ → Value → Payload
payload_of inside (values.Varint n) = varint n
payload_of inside (values.Eight n) = eight n
payload_of inside (values.Four n) = four n
payload_of inside (values.Bytes b) = delimited_at inside b.now

-- a field of the code, without its place in memory
abbrev pub field_of : Field → FieldAt
field_of f = record { number = f.number; payload = payload_of f.inside f.value; at = f.at }

-- the result of going on with a value that was read, or the fault
infixl 10 ◌>>=◌
abbrev pub ◌>>=◌ : {A B : Type 0} → Result A WireError → (A → Result B WireError) → Result B WireError
(Ok x) >>= f = f x
(Err e) >>= f = Err e

-- a result of the code: the payload without its place in memory, and its length
abbrev pub payload_seen : Result (Value × ℕ × ℕ) WireError → Result (Payload × ℕ) WireError
payload_seen (Ok x) = Ok (payload_of x.1 x.0, x.2)
payload_seen (Err e) = Err e

-- a result of the code: a field and its length
abbrev pub field_seen : Result (Field × ℕ) WireError → Result (FieldAt × ℕ) WireError
field_seen (Ok x) = Ok (field_of x.0, x.1)
field_seen (Err e) = Err e

-- a result of the code: a field alone
abbrev pub field_seen_one : Result Field WireError → Result FieldAt WireError
field_seen_one (Ok f) = Ok (field_of f)
field_seen_one (Err e) = Err e

-- ---- payloads at the front of the bytes, each with its length. A fault is reported at the tag's offset `at`, and the bytes
-- begin at the offset `start`.

-- a payload of `size` bytes, or a fault if there are fewer
abbrev pub fixed_at : ℕ → (List ℕ → Payload) → ℕ → List ℕ → Result (Payload × ℕ) WireError
fixed_at size payload at bytes = if nat_lt (length bytes) size then Err (Truncated at) else Ok (payload (take size bytes), size)

-- a payload of bytes, behind its length
unfoldable pub payload_behind_length : ℕ → ℕ → List ℕ → Result (Payload × ℕ) WireError
payload_behind_length at start bytes = do
  n ← varint_at at bytes
  if nat_lt (length (drop n.1 bytes)) n.0 then Err (Truncated at)
      else Ok (delimited_at (start + n.1) (take n.0 (drop n.1 bytes)), n.1 + n.0)

-- a payload that is a number
unfoldable pub number_at : ℕ → List ℕ → Result (Payload × ℕ) WireError
number_at at bytes = do
  n ← varint_at at bytes
  Ok (varint n.0, n.1)

-- the wire type with this code, which is the tag modulo 8
unfoldable pub kind_of : ℕ → ℕ → Result WireType WireError
kind_of at n =
    if n == 0 then Ok kinds.Varint else
    if n == 1 then Ok kinds.Eight else
    if n == 2 then Ok kinds.Bytes else
    if n == 5 then Ok kinds.Four else Err (errors.WireType at)

-- the payload at the front, which has this wire type
unfoldable pub payload_at : WireType → ℕ → ℕ → List ℕ → Result (Payload × ℕ) WireError
payload_at kinds.Varint at start bytes = number_at at bytes
payload_at kinds.Eight at start bytes = fixed_at 8 (λ b. eight (from_le_bytes w64 b)) at bytes
payload_at kinds.Bytes at start bytes = payload_behind_length at start bytes
payload_at kinds.Four at start bytes = fixed_at 4 (λ b. four (from_le_bytes w32 b)) at bytes

-- the number in a tag, which is from 1 to 2 ^ 29 - 1
unfoldable pub tag_number : ℕ → ℕ → Result ℕ WireError
tag_number at n = if nat_lt 0 n && nat_lt n (2 ^ 29) then Ok n else Err (FieldNumber at)

-- The field at the front of the bytes, and its length. `fits` says which wire types a number may have.
unfoldable pub field_at : (ℕ → WireType → Bool) → ℕ → List ℕ → Result (FieldAt × ℕ) WireError
field_at fits at bytes = do
  tag ← varint_at at bytes
  number ← tag_number at (tag.0 / 8)
  kind ← kind_of at (tag.0 % 8)
  if fits number kind then
      (payload_at kind at (at + tag.1) (drop tag.1 bytes) >>= λ p. Ok (record { number = number; payload = p.0; at = at }, tag.1 + p.1))
      else Err (WrongType at)

-- the first piece and the others, which skip the rest of it, or its fault
abbrev pub next_piece : {A : Type 0} → (ℕ → List (Result A WireError)) → Result (A × ℕ) WireError → List (Result A WireError)
next_piece others (Ok x) = Ok x.0 ∷ others (x.1 - 1)
next_piece others (Err e) = Err e ∷ []

-- The pieces one after another, up to the first fault; `front` reads one with its length. The next `skip` bytes belong to
-- the piece before.
unfoldable pub pieces : {A : Type 0} → (ℕ → List ℕ → Result (A × ℕ) WireError) → ℕ → ℕ → List ℕ → List (Result A WireError)
pieces front skip at [] = []
pieces front zero at (b ∷ bytes) = next_piece (λ skip. pieces front skip (at + 1) bytes) (front at (b ∷ bytes))
pieces front (suc skip) at (b ∷ bytes) = pieces front skip (at + 1) bytes

-- the fields of bytes that begin at the offset `at`
abbrev pub fields_of : (ℕ → WireType → Bool) → ℕ → List ℕ → List (Result FieldAt WireError)
fields_of fits at bytes = pieces (field_at fits) 0 at bytes

-- the schema in which any number may have any wire type
abbrev pub any : ℕ → WireType → Bool
any number kind = true

-- ---- rows: messages one after another, each behind its length

-- the message at the front, and the number of bytes that it takes with its length
unfoldable pub row_at : ℕ → List ℕ → Result (List ℕ × ℕ) WireError
row_at at bytes = do
  n ← varint_at at bytes
  if nat_lt most n.0 then Err TooLarge else
      if nat_lt (length (drop n.1 bytes)) n.0 then Err (Truncated at) else Ok (take n.0 (drop n.1 bytes), n.1 + n.0)

-- the messages of a row that is the outermost input
abbrev pub rows_of : List ℕ → List (Result (List ℕ) WireError)
rows_of bytes = pieces row_at 0 0 bytes
