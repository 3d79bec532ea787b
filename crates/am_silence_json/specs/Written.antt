-- The text written for a moment: YYYY-MM-DDTHH:MM:SS.mmmZ, in UTC, with the nanoseconds cut to milliseconds.
use Rattle.std.specs.Prelude.{◌≡◌, ℕ, ◌+◌, ◌/◌, ◌%◌, pos, List, [], ◌∷◌, ◌++◌, codes}
use Rattle.am_version_order.specs.Moments.{AreParts, since_least}
use Rattle.am_silence_json.specs.declared.moments.clock.Clock.{Clock}
use Rattle.am_silence_json.specs.Clocks.{IsReal, clock_seconds}

-- a number below 10 as its digit
abbrev pub digit : ℕ → List ℕ
digit n = (48 + n) ∷ []

-- a number below 100 in two digits
abbrev pub two_digits : ℕ → List ℕ
two_digits n = digit (n / 10) ++ digit (n % 10)

-- a number below 1,000 in three digits
abbrev pub three_digits : ℕ → List ℕ
three_digits n = digit (n / 100) ++ two_digits (n % 100)

-- the date: year, month and day
abbrev pub date_text : Clock → List ℕ
date_text c =
    two_digits (c.year / 100) ++ (two_digits (c.year % 100) ++ (codes "-" ++ (two_digits c.month ++ (codes "-" ++ two_digits c.day))))

-- the time of day, with milliseconds
abbrev pub time_text : Clock → ℕ → List ℕ
time_text c millis =
    two_digits c.hour ++ (codes ":" ++ (two_digits c.minute ++ (
    codes ":" ++ (two_digits c.second ++ (codes "." ++ three_digits millis)))))

-- the whole text
abbrev pub written_text : Clock → ℕ → List ℕ
written_text c millis = date_text c ++ (codes "T" ++ (time_text c millis ++ codes "Z"))

-- the text is the one written for the moment
pub record WritesMoment (m : ℕ) (text : List ℕ) : Type 0 where
  pub clock : Clock
  pub nanos : ℕ
  pub real : IsReal clock
  pub parts : AreParts (clock_seconds clock) nanos
  pub moment : pos m ≡ since_least (clock_seconds clock) nanos
  pub spelled : text ≡ written_text clock (nanos / 1_000_000)
