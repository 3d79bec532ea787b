-- Moments as contracts see them: whole nanoseconds since the first one.
use Rattle.std.specs.Prelude.{◌≡◌, ℕ, ◌+◌, ◌*◌, ◌/◌, ◌%◌, ◌<◌, ℤ, pos, ◌+ℤ◌, ◌*ℤ◌, ◌≤ℤ◌}
use Rattle.std.proofs.Common.{arith}

-- the last moment, 9999-12-31T23:59:59.999999999Z
abbrev pub greatest : ℕ
greatest = 315_537_897_599_999_999_999

-- the seconds from the first moment, 0001-01-01T00:00:00Z, to 1970-01-01T00:00:00Z
abbrev pub seconds_before_1970 : ℕ
seconds_before_1970 = 62_135_596_800

-- seconds and nanoseconds since 1970, as nanoseconds since the first moment
abbrev pub since_least : ℤ → ℕ → ℤ
since_least seconds nanos = ((seconds +ℤ pos seconds_before_1970) *ℤ pos 1_000_000_000) +ℤ pos nanos

-- the seconds since 1970, rounded down, and the remaining nanoseconds make a moment
pub record AreParts (seconds : ℤ) (nanos : ℕ) : Type 0 where
  pub not_before : pos 0 ≤ℤ (seconds +ℤ pos seconds_before_1970)
  pub not_after : seconds ≤ℤ pos 253_402_300_799
  pub below_second : nanos < 1_000_000_000

-- ---- the seconds and nanoseconds of a moment are recovered from its number
pub whole_of : (seconds nanos : ℕ) → nanos < 1_000_000_000 → (seconds * 1_000_000_000 + nanos) / 1_000_000_000 ≡ seconds
whole_of seconds nanos h = omega arith

pub rest_of : (seconds nanos : ℕ) → nanos < 1_000_000_000 → (seconds * 1_000_000_000 + nanos) % 1_000_000_000 ≡ nanos
rest_of seconds nanos h = omega arith

-- ---- the halves of its seconds are recovered from theirs
pub high_of : (high low : ℕ) → low < 4_294_967_296 → (high * 4_294_967_296 + low) / 4_294_967_296 ≡ high
high_of high low h = omega arith

pub low_of : (high low : ℕ) → low < 4_294_967_296 → (high * 4_294_967_296 + low) % 4_294_967_296 ≡ low
low_of high low h = omega arith
