-- A timestamp (google.protobuf.Timestamp: seconds int64 = 1, nanos int32 = 2), and the moment that it represents.
use Rattle.std.specs.Prelude.{ℕ, ◌+◌, ◌-◌, ◌*◌, ◌/◌, ◌%◌, ◌^◌, Bool, List, [], ◌∷◌, ◌++◌}
use Rattle.std.specs.Prelude.{Option, Some, None, Result, nat_lt, ◌&&◌, if◌then◌else◌}
use Rattle.am_version_order.specs.Moments.{seconds_before_1970}
use Rattle.am_wire.specs.declared.error.WireError.{WireError}
use Rattle.am_wire.specs.declared.error.WireError.TheVariants as errors
use Rattle.am_wire.specs.Fields.{FieldAt}
use Rattle.am_wire.specs.Reading.{Table, table_of, varint_row, last_number, last_place, merged, is_given, read_by}
use Rattle.am_wire.specs.Writing.{writes_number}

-- the table of a timestamp
abbrev pub timestamp : Table
timestamp = table_of (varint_row 1 ∷ varint_row 2 ∷ [])

-- The seconds since the first moment, of an int64 in two's complement of 64 bits, in which 2 ^ 64 counts as 0.
abbrev pub seconds_since_least : ℕ → ℕ
seconds_since_least n = (n + seconds_before_1970) % 2 ^ 64

-- the low 32 bits of a number, which are a uint32, an enum, or an int32 that is not negative
abbrev pub low_half : ℕ → ℕ
low_half n = n % 2 ^ 32

-- the seconds are from year 1 to year 9999, and the nanos less than a second; the low half of a negative number is above that
abbrev pub is_moment : List FieldAt → Bool
is_moment es = nat_lt (seconds_since_least (last_number 1 es)) 315_537_897_600 && nat_lt (low_half (last_number 2 es)) 1_000_000_000

-- the moment of a timestamp's fields, in nanoseconds since the first one
abbrev pub moment : List FieldAt → ℕ
moment es = seconds_since_least (last_number 1 es) * 1_000_000_000 + low_half (last_number 2 es)

-- the fault that a timestamp's own test finds, reported at `place`
abbrev pub timestamp_tests : ℕ → List FieldAt → Option WireError
timestamp_tests place es = if is_moment es then None else Some (errors.Timestamp place)

-- the result of reading a timestamp by itself, whose own fault is reported at its beginning
unfoldable pub reads_moment : ℕ → List ℕ → Result ℕ WireError
reads_moment at bytes = read_by timestamp timestamp_tests moment at at bytes

-- ---- a timestamp as a part of a message
-- the moment in the part with this number; a missing one is the first moment
abbrev pub moment_of : ℕ → List FieldAt → ℕ
moment_of n es = if is_given n es then moment (merged timestamp n es) else 0

-- the fault that the part's test finds, reported at its last payload
abbrev pub moment_test : ℕ → List FieldAt → Option WireError
moment_test n es = timestamp_tests (last_place n es) (merged timestamp n es)

-- ---- writing
-- the seconds since 1970 in two's complement
abbrev pub seconds_number : ℕ → ℕ
seconds_number m = (m / 1_000_000_000 + (2 ^ 64 - seconds_before_1970)) % 2 ^ 64

-- the text of a moment
unfoldable pub writes_moment : ℕ → List ℕ
writes_moment m = writes_number 1 (seconds_number m) ++ writes_number 2 (m % 1_000_000_000)
