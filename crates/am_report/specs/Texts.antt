-- The text of a moment as API v2 shows it, as a function of the moment: that of the date of the moment's day number, and of the
-- time of day.
use Rattle.std.specs.Prelude.{ℕ, zero, suc, ◌+◌, ◌/◌, ◌%◌, ◌==◌, ◌&&◌, nat_le, Bool, List, pos, if◌then◌else◌}
use Rattle.jiff_core.specs.Calendar.{days_in_month, day_count}
use Rattle.am_silence_json.specs.declared.moments.clock.Clock.{Clock}
use Rattle.am_silence_json.specs.Written.{written_text}

-- the greatest number below n that passes the test, or 0 if none does
unfoldable pub greatest_below : ℕ → (ℕ → Bool) → ℕ
greatest_below zero test = zero
greatest_below (suc n) test = if test n then n else greatest_below n test

-- the clock at a place of the calendar, in which each year has 13 months of 32 days from 0 on, and at a second of the day
abbrev pub clock_of : ℕ → ℕ → Clock
clock_of place second = record {
  year = place / 416;
  month = place % 416 / 32;
  day = place % 32;
  hour = second / 3600;
  minute = second / 60 % 60;
  second = second % 60;
}

-- true if a date of the calendar is at the place, this number of days after 1 January of the year -10000
abbrev pub is_date_of : ℕ → ℕ → Bool
is_date_of days place =
    let clock = clock_of place 0 in
    nat_le 1 clock.month && nat_le clock.month 12 && nat_le 1 clock.day && nat_le clock.day (days_in_month (pos clock.year) clock.month)
    && (day_count (pos clock.year) clock.month clock.day == days)

-- the day number of a moment: 1 January of the year 1, the day of the first moment, is 3,652,791 days after that of the year -10000
abbrev pub days_of : ℕ → ℕ
days_of moment = moment / 86_400_000_000_000 + 3_652_791

-- YYYY-MM-DDTHH:MM:SS.mmmZ, in UTC, the nanoseconds cut to milliseconds; no year is over 9999
unfoldable pub moment_text : ℕ → List ℕ
moment_text moment =
    written_text (clock_of (greatest_below 4_160_000 (is_date_of (days_of moment))) (moment / 1_000_000_000 % 86_400))
    (moment % 1_000_000_000 / 1_000_000)
