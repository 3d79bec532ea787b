-- The reading of a calendar and a wall clock, and its text: the date and the time of day of RFC 3339, to the second.
use Rattle.std.specs.Prelude.{◌≡◌, ◌⊎◌, ℕ, ◌+◌, ◌*◌, ◌/◌, ◌%◌, ◌<◌, ℤ, pos, ◌+ℤ◌, ◌*ℤ◌, List, slice_index}
use Rattle.jiff_core.specs.Calendar.{IsDate, days_from_civil}
use Rattle.am_silence_json.specs.declared.moments.clock.Clock.{Clock}
use Rattle.am_silence_json.specs.Digits.{HasTwo}

-- the separators of the numbers: `-` in the date, `T` or `t` after it, `:` in the time of day
pub record HasMarks (text : List ℕ) : Type 0 where
  pub behind_year : slice_index text 4 ≡ 45
  pub behind_month : slice_index text 7 ≡ 45
  pub behind_date : (slice_index text 10 ≡ 84) ⊎ (slice_index text 10 ≡ 116)
  pub behind_hour : slice_index text 13 ≡ 58
  pub behind_minute : slice_index text 16 ≡ 58

-- the first 19 bytes are YYYY-MM-DDTHH:MM:SS
pub record IsClockText (text : List ℕ) (c : Clock) : Type 0 where
  pub marks : HasMarks text
  pub century : HasTwo text 0 (c.year / 100)
  pub year : HasTwo text 2 (c.year % 100)
  pub month : HasTwo text 5 c.month
  pub day : HasTwo text 8 c.day
  pub hour : HasTwo text 11 c.hour
  pub minute : HasTwo text 14 c.minute
  pub second : HasTwo text 17 c.second

-- a date of the calendar and a time of day, without leap seconds
pub record IsReal (c : Clock) : Type 0 where
  pub date : IsDate (pos c.year) (pos c.month) (pos c.day)
  pub hour : c.hour < 24
  pub minute : c.minute < 60
  pub second : c.second < 60

-- the number of seconds since midnight
abbrev pub second_of_day : Clock → ℕ
second_of_day c = c.hour * 3600 + c.minute * 60 + c.second

-- the seconds since 1970-01-01T00:00:00 on the same clock
abbrev pub clock_seconds : Clock → ℤ
clock_seconds c = (days_from_civil (pos c.year) c.month c.day *ℤ pos 86400) +ℤ pos (second_of_day c)
