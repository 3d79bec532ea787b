-- Fractions of a second: nothing, or a point and one or more digits.
use Rattle.std.specs.Prelude.{◌≡◌, ◌≢◌, ◌⊎◌, ℕ, ◌+◌, ◌-◌, ◌*◌, ◌/◌, ◌<◌, List, [], ◌∷◌, length, drop, slice_index}
use Rattle.std.specs.Char.{is_ascii_digit}
use Rattle.std.specs.List.{take_while}
use Rattle.am_silence_json.specs.declared.moments.fraction.Fraction.{Fraction}

-- the number of digits at the beginning of a text
abbrev pub digit_count : List ℕ → ℕ
digit_count text = length (take_while is_ascii_digit text)

-- The sum of digits, of which the first counts `unit` nanoseconds and each other a tenth of the one before it, rounded down: with a
-- first unit of 100,000,000, the digits after the ninth count nothing.
abbrev pub fraction_nanos : ℕ → List ℕ → ℕ
fraction_nanos unit [] = 0
fraction_nanos unit (d ∷ ds) = (d - 48) * unit + fraction_nanos (unit / 10) ds

-- without a point there is no fraction
pub record IsNoFraction (text : List ℕ) (f : Fraction) : Type 0 where
  pub no_point : slice_index text 0 ≢ 46
  pub nanos : f.nanos ≡ 0
  pub size : f.size ≡ 0

-- a point, and all digits that follow it
pub record IsPointed (text : List ℕ) (f : Fraction) : Type 0 where
  pub point : slice_index text 0 ≡ 46
  pub digit : 0 < digit_count (drop 1 text)
  pub nanos : f.nanos ≡ fraction_nanos 100_000_000 (take_while is_ascii_digit (drop 1 text))
  pub size : f.size ≡ 1 + digit_count (drop 1 text)

-- the fraction at the beginning of a text: its nanoseconds, and its length in bytes
abbrev pub IsFraction : List ℕ → Fraction → Type 0
IsFraction text f = IsNoFraction text f ⊎ IsPointed text f
