-- One text is written for a moment.
use Rattle.std.proofs.Common.{◌≡◌, ℕ, ◌/◌, ◌<◌, List, ℤ, pos, arith, refl, sym, ap₂, ◌∙◌}
use Rattle.std.proofs.lemmas.Int.{ints}
use Rattle.jiff_core.specs.declared.civil.date.Date.{Date}
use Rattle.jiff_core.specs.Calendar.{days_from_civil}
use Rattle.jiff_core.proofs.DateLemmas.{epoch_day_injective}
use Rattle.am_version_order.specs.Moments.{since_least}
use Rattle.am_silence_json.specs.declared.moments.clock.Clock.{Clock}
use Rattle.am_silence_json.specs.Clocks.{IsReal, second_of_day, clock_seconds}
use Rattle.am_silence_json.specs.Written.{written_text, WritesMoment}

abbrev date_of : (c : Clock) → IsReal c → Date
date_of c real =
    let date = real.date in
    record {
      year = pos c.year;
      month = c.month;
      day = c.day;
      year_in = date.0;
      month_in = (omega (arith, ints, date.1.0), omega (arith, ints, date.1.1));
      day_in = (omega (arith, ints, date.2.0), omega (arith, ints, date.2.1));
    }

record SameDate (c d : Clock) : Type 0 where
  year : c.year ≡ d.year
  month : c.month ≡ d.month
  day : c.day ≡ d.day

days_tell : (c d : Clock) → IsReal c → IsReal d → days_from_civil (pos c.year) c.month c.day ≡ days_from_civil (pos d.year) d.month d.day
    → SameDate c d
days_tell c d real other e =
    let same = epoch_day_injective (date_of c real) (date_of d other) e in
    record { year = omega (arith, ints, same.0); month = same.1; day = same.2 }

below_day : (c : Clock) → IsReal c → second_of_day c < 86400
below_day c real =
    let hour : c.hour < 24 = real.hour in
    let minute : c.minute < 60 = real.minute in
    let second : c.second < 60 = real.second in
    omega arith

clocks_tell : (c d : Clock) → IsReal c → IsReal d → clock_seconds c ≡ clock_seconds d → c ≡ d
clocks_tell c d real other e =
    let low = below_day c real in
    let high = below_day d other in
    let date = days_tell c d real other (omega (arith, ints)) in
    let seconds : second_of_day c ≡ second_of_day d = omega (arith, ints) in
    let c_minute : c.minute < 60 = real.minute in
    let c_second : c.second < 60 = real.second in
    let d_minute : d.minute < 60 = other.minute in
    let d_second : d.second < 60 = other.second in
    let hour : c.hour ≡ d.hour = omega arith in
    let minute : c.minute ≡ d.minute = omega arith in
    let second : c.second ≡ d.second = omega arith in
    rw (date.year, date.month, date.day, hour, minute, second) refl

-- seconds and nanoseconds of a moment
record SameParts (z w : ℤ) (n k : ℕ) : Type 0 where
  seconds : z ≡ w
  nanos : n ≡ k

parts_tell : (z w : ℤ) (n k m : ℕ) → n < 1_000_000_000 → k < 1_000_000_000 → pos m ≡ since_least z n → pos m ≡ since_least w k → SameParts z w n k
parts_tell z w n k m low high e f = record { seconds = omega (arith, ints); nanos = omega (arith, ints) }

-- two texts of a moment are the same
pub one_text : (m : ℕ) (text other : List ℕ) → WritesMoment m text → WritesMoment m other → text ≡ other
one_text m text other w v =
    let parts = parts_tell _ _ w.nanos v.nanos m w.parts.below_second v.parts.below_second w.moment v.moment in
    let clocks = clocks_tell w.clock v.clock w.real v.real parts.seconds in
    w.spelled ∙ ap₂ (λ c n. written_text c (n / 1_000_000)) clocks parts.nanos ∙ sym v.spelled
