-- Dates from the year 1 on.
use Rattle.std.proofs.Common.{◌≡◌, ℕ, ◌+◌, ℤ, pos, negsuc, neg_ℤ, ◌≤ℤ◌, ◌+ℤ◌, arith, refl}
use Rattle.jiff_core.specs.declared.civil.date.Date.{Date}
use Rattle.jiff_core.specs.Calendar.{IsCivilDate, day_count, days_from_civil}
use Rattle.jiff_core.specs.Date.{epoch_day}
use Rattle.jiff_core.proofs.SignedLemmas.{signed_arith}
use Rattle.jiff_core.proofs.MarchLemmas.{day_count-early}
use Rattle.jiff_core.proofs.CalendarLemmas.{days_from_civil-day_count, day_count-lt_year}
use Rattle.jiff_core.proofs.DateLemmas.{civil}

day_count-year_1 : day_count (pos 1) 1 1 ≡ 3_652_791
day_count-year_1 = day_count-early (pos 1) 10000 1 1 refl (omega arith) (omega arith) (omega arith)

year_of_civil : (y : ℤ) (m d : ℕ) → IsCivilDate y m d → neg_ℤ (pos 719162) ≤ℤ days_from_civil y m d → pos 0 ≤ℤ y
year_of_civil (pos n) m d real h = omega (arith, signed_arith)
year_of_civil (negsuc n) m d real h =
    let earlier = day_count-lt_year (negsuc n) m d (pos 1) 1 1 real (omega arith) (omega (arith, signed_arith)) in
    absurd (omega (arith, signed_arith, days_from_civil-day_count (negsuc n) m d, day_count-year_1, earlier))

-- a date from 0001-01-01 on has a year that is not negative
pub year_from : (d : Date) (days : ℕ) → epoch_day d +ℤ pos 4_371_587 ≡ pos (days + 3_652_425) → pos 0 ≤ℤ d.year
year_from d days e = year_of_civil d.year d.month d.day (civil d) (omega (arith, signed_arith))
