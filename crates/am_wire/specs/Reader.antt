-- The answer of a reader of rows to the bytes that it reads; `left` is what its source has left then. Offsets count the bytes
-- of the whole input.
use Rattle.std.specs.Prelude.{◌≡◌, ◌≢◌, ℕ, ◌+◌, ◌-◌, ◌<◌, ◌≤◌, List, [], length, take, Option, Some, None}
use Rattle.std.specs.Prelude.{Result, Ok, Err, ◌⊎◌, ⊤, nat_lt, if◌then◌else◌}
use Rattle.std.specs.Io.KnownBytes.{IsAtEnd}
use Rattle.am_wire.specs.declared.error.WireError.{WireError}
use Rattle.am_wire.specs.declared.error.WireError.TheVariants.{Truncated}
use Rattle.am_wire.specs.declared.error.WireError.TheVariants as errors
use Rattle.am_wire.specs.declared.reader.RowFault.{RowFault}
use Rattle.am_wire.specs.declared.reader.RowFault.TheVariants.{Read, Wire, TooLarge, Ended, Memory}
use Rattle.am_wire.specs.declared.reader.RowPosition.{RowPosition}
use Rattle.am_wire.specs.declared.reader.RowPosition.TheVariants.{Before, Over, Refused}
use Rattle.am_wire.specs.Limits.{most}
use Rattle.am_wire.specs.Varint.{varint_at}
use Rattle.am_wire.specs.Fields.{row_at, ◌>>=◌}

-- the bytes begin a row at the offset `at` that is not whole, and whose length is not at fault
abbrev pub IsCut : ℕ → List ℕ → Type 0
IsCut at bytes = row_at at bytes ≡ Err (Truncated at)

-- the bytes are one row, with this message
abbrev pub IsRow : ℕ → List ℕ → List ℕ → Type 0
IsRow at bytes message = row_at at bytes ≡ Ok (message, length bytes)

-- the bytes without the last one
abbrev pub all_but_last : List ℕ → List ℕ
all_but_last bytes = take (length bytes - 1) bytes

-- the bytes are one row, and reading its message, which comes behind its length, gives this value or fault
abbrev pub ReadsAs : {A : Type 0} → (ℕ → List ℕ → Result A WireError) → ℕ → List ℕ → Result A WireError → Type 0
ReadsAs reads at bytes value = (message : List ℕ) × IsRow at bytes message × (reads (at + (length bytes - length message)) message ≡ value)

-- the last of the bytes shows that the row's length has this fault
abbrev pub HasBadLength : ℕ → List ℕ → WireError → Type 0
HasBadLength at bytes e = (row_at at bytes ≡ Err e) × (e ≢ Truncated at) × IsCut at (all_but_last bytes)

-- the input ends inside the row
abbrev pub EndsInRow : ℕ → List ℕ → Option (List ℕ) → WireError → Type 0
EndsInRow at bytes left e = IsCut at bytes × (0 < length bytes) × IsAtEnd left × (e ≡ Truncated at)

-- No row became whole, for this fault: a read failed after the bytes, or they are at fault, or the last one is past the
-- input's limit.
abbrev pub Stops : ℕ → ℕ → List ℕ → Option (List ℕ) → RowFault → Type 0
Stops limit at bytes left (Read k) = IsCut at bytes × (k ≡ at + length bytes) × (k ≤ limit)
Stops limit at bytes left (Wire e) = (HasBadLength at bytes e ⊎ EndsInRow at bytes left e) × (at + length bytes ≤ limit)
Stops limit at bytes left TooLarge = IsCut at (all_but_last bytes) × (at + length bytes ≡ limit + 1)
Stops limit at bytes left Ended = ⊥
Stops limit at bytes left Memory = ⊤

-- A call that reads these bytes gives this answer, from the reader's position before it to the position `next` after it. The
-- input may have `limit` bytes, which doesn't change.
abbrev pub Answers : {A : Type 0} → (ℕ → List ℕ → Result A WireError)
    → RowPosition → List ℕ → Option (List ℕ) → Result (Option A) RowFault → RowPosition → Type 0
Answers reads (Before at limit) bytes left (Ok (Some value)) next =
    ReadsAs reads at bytes (Ok value) × (0 < length bytes) × (at + length bytes ≤ limit) × (next ≡ Before (at + length bytes) limit)
Answers reads (Before at limit) bytes left (Ok None) next = (bytes ≡ []) × IsAtEnd left × (next ≡ Over)
Answers reads (Before at limit) bytes left (Err (Wire e)) next =
    (Stops limit at bytes left (Wire e) ⊎ (ReadsAs reads at bytes (Err e) × (at + length bytes ≤ limit) × (e ≢ errors.Memory))) × (next ≡ Refused)
Answers reads (Before at limit) bytes left (Err fault) next = Stops limit at bytes left fault × (next ≡ Refused)
Answers reads Over bytes left answer next = (bytes ≡ []) × (answer ≡ Ok None) × (next ≡ Over)
Answers reads Refused bytes left answer next = (bytes ≡ []) × (answer ≡ Err Ended) × (next ≡ Refused)

-- ---- the steps of a call
-- the fault of a row whose message has this fault; running out of memory is no fault of its bytes
abbrev pub row_fault : WireError → RowFault
row_fault errors.Memory = Memory
row_fault e = Wire e

-- the byte at the offset `place` can't be taken, for this fault
abbrev pub ByteStops : ℕ → ℕ → List ℕ → RowFault → Type 0
ByteStops limit place bytes (Read k) = (bytes ≡ []) × (k ≡ place)
ByteStops limit place bytes TooLarge = (length bytes ≡ 1) × (limit ≤ place)
ByteStops limit place bytes fault = ⊥

-- the length of a row, once it is whole
unfoldable pub length_at : ℕ → List ℕ → Result ℕ WireError
length_at at bytes = do
  n ← varint_at at bytes
  if nat_lt most n.0 then Err errors.TooLarge else Ok n.0

-- the bytes are the length `size` of a message that begins at the offset `start`
pub record IsLength (at size start : ℕ) (bytes : List ℕ) : Type 0 where
  pub whole : varint_at at bytes ≡ Ok (size, length bytes)
  pub small : size ≤ most
  pub place : start ≡ at + length bytes

-- fewer bytes than wanted were read from the offset `start` on, for this fault
abbrev pub BytesStop : ℕ → ℕ → List ℕ → RowFault → Type 0
BytesStop start wanted bytes (Read k) = (length bytes < wanted) × (k ≡ start + length bytes)
BytesStop start wanted bytes Memory = ⊤
BytesStop start wanted bytes fault = ⊥
