-- The reading of the text of a schedule.
use Rattle.std.specs.Prelude.{◌≡◌, ℕ, ◌+◌, ◌≤◌, List, length, Option}
use Rattle.std.specs.Io.KnownBytes.{Consumes}
use Rattle.am_replay.specs.declared.error.ReplayError.{ReplayError}
use Rattle.am_replay.specs.declared.error.ReplayError.TheVariants as errors

-- the maximum size of a schedule in bytes
abbrev pub most_bytes : ℕ
most_bytes = 16777216

-- A read failed after `at` bytes.
pub record FailsBehind (start left : Option (List ℕ)) (at : ℕ) : Type 0 where
  pub came : List ℕ
  pub consumed : Consumes start left came
  pub counted : at ≡ length came
  pub within : at ≤ most_bytes

-- One byte too many came.
pub record IsTooLong (start left : Option (List ℕ)) : Type 0 where
  pub came : List ℕ
  pub consumed : Consumes start left came
  pub too_many : length came ≡ most_bytes + 1

-- A fault kept the input from being read to its end.
abbrev pub StopsReading : Option (List ℕ) → Option (List ℕ) → ReplayError → Type 0
StopsReading start left (errors.Read at) = FailsBehind start left at
StopsReading start left errors.TooLarge = IsTooLong start left
StopsReading start left (errors.Memory line) = line ≡ 0
StopsReading start left _ = ⊥
