-- The text that is written for a moment is the one that is found for it.
use Rattle.std.proofs.Common.{◌≡◌, ℕ, zero, suc, ◌+◌, ◌-◌, ◌*◌, ◌/◌, ◌%◌, ◌<◌, ◌≤◌, Bool, true, false, cond, ◌&&◌, List, pos, refl, sym, ap, ◌∙◌, subst, inl, inr, arith}
use Rattle.std.specs.Prelude.{nat_le, ◌==◌}
use Rattle.std.proofs.lemmas.Bool.{cases_order}
use Rattle.std.proofs.lemmas.Bool.Decides.{nat_tests}
use Rattle.std.proofs.lemmas.Int.{ints}
use Rattle.jiff_core.specs.Calendar.{day_count, days_from_civil, days_in_month}
use Rattle.jiff_core.proofs.SignedLemmas.{signed_arith}
use Rattle.jiff_core.proofs.CalendarLemmas.{days_from_civil-day_count, days_in_month_bounds}
use Rattle.am_version_order.specs.Moments.{since_least}
use Rattle.am_silence_json.specs.declared.moments.clock.Clock.{Clock}
use Rattle.am_silence_json.specs.Clocks.{IsReal, clock_seconds, second_of_day}
use Rattle.am_silence_json.specs.Written.{written_text, WritesMoment}
use Rattle.am_report.specs.Texts.{greatest_below, clock_of, is_date_of, days_of, moment_text}

-- ---- the greatest number that passes

found_by : (n : ℕ) (test : ℕ → Bool) (t : Bool) → test n ≡ t → (k : ℕ) → k < suc n → test k ≡ true → (k < n → test (greatest_below n test) ≡ true)
    → test (cond t n (greatest_below n test)) ≡ true
found_by n test true is k less passes earlier = is
found_by n test false is k less passes earlier =
    elim (cases_order k n) [
      | inl same ↦ let fails : test k ≡ false = ap test same ∙ is in absurd cc
      | inr (inl lt) ↦ earlier lt
      | inr (inr gt) ↦ absurd (omega arith)
    ]

found : (n : ℕ) (test : ℕ → Bool) (k : ℕ) → k < n → test k ≡ true → test (greatest_below n test) ≡ true
unfolding greatest_below
found zero test k less passes = absurd (omega arith)
found (suc n) test k less passes = found_by n test (test n) refl k less passes (λ lt. found n test k lt passes)

below_by : (n g : ℕ) (t : Bool) → g ≤ n → cond t n g < suc n
below_by n g true within = omega arith
below_by n g false within = omega arith

not_above : (n : ℕ) (test : ℕ → Bool) → greatest_below n test ≤ n
unfolding greatest_below
not_above zero test = omega arith
not_above (suc n) test = let less = below_by n (greatest_below n test) (test n) (not_above n test) in omega (arith, less)

below : (n : ℕ) (test : ℕ → Bool) → 0 < n → greatest_below n test < n
unfolding greatest_below
below zero test some = absurd (omega arith)
below (suc n) test some = below_by n (greatest_below n test) (test n) (not_above n test)

-- ---- dates at places

record IsDateAt (days place : ℕ) : Type 0 where
  month_from : 1 ≤ place % 416 / 32
  month_to : place % 416 / 32 ≤ 12
  day_from : 1 ≤ place % 32
  day_to : place % 32 ≤ days_in_month (pos (place / 416)) (place % 416 / 32)
  days_are : day_count (pos (place / 416)) (place % 416 / 32) (place % 32) ≡ days

both : (a b : Bool) → (a && b) ≡ true → (a ≡ true) × (b ≡ true)
both true b e = (refl, e)
both false b e = absurd cc

five : (a b c d e : Bool) → a ≡ true → b ≡ true → c ≡ true → d ≡ true → e ≡ true → (a && b && c && d && e) ≡ true
five a b c d e ha hb hc hd he = rw (ha, hb, hc, hd, he) refl

le_true : (a b : ℕ) → a ≤ b → nat_le a b ≡ true
le_true a b h = grind (arith, nat_tests)

true_le : (a b : ℕ) → nat_le a b ≡ true → a ≤ b
true_le a b h = grind (arith, nat_tests)

eq_true : (a b : ℕ) → a ≡ b → (a == b) ≡ true
eq_true a b h = grind (arith, nat_tests)

true_eq : (a b : ℕ) → (a == b) ≡ true → a ≡ b
true_eq a b h = grind (arith, nat_tests)

passes : (days place : ℕ) → IsDateAt days place → is_date_of days place ≡ true
passes days place date = five _ _ _ _ _ (le_true _ _ date.month_from) (le_true _ _ date.month_to) (le_true _ _ date.day_from) (le_true _ _ date.day_to) (eq_true _ _ date.days_are)

-- of tests joined from the left
of_five : (a b c d e : Bool) → (a && b && c && d && e) ≡ true → (a ≡ true) × (b ≡ true) × (c ≡ true) × (d ≡ true) × (e ≡ true)
of_five true true true true true h = (refl, refl, refl, refl, refl)
of_five true true true true false h = absurd cc
of_five true true true false e h = absurd cc
of_five true true false d e h = absurd cc
of_five true false c d e h = absurd cc
of_five false b c d e h = absurd cc

is_date : (days place : ℕ) → is_date_of days place ≡ true → IsDateAt days place
is_date days place h =
    let all = of_five _ _ _ _ _ h in
    record {
      month_from = true_le _ _ all.0;
      month_to = true_le _ _ all.1;
      day_from = true_le _ _ all.2;
      day_to = true_le _ _ all.3;
      days_are = true_eq _ _ all.4;
    }

-- the place of a date of the calendar
place_of : Clock → ℕ
place_of c = c.year * 416 + c.month * 32 + c.day

in_place : (c : Clock) (days : ℕ) → IsReal c → day_count (pos c.year) c.month c.day ≡ days → IsDateAt days (c.year * 416 + c.month * 32 + c.day)
in_place c days real are =
    let date = real.date in
    let month_from : 1 ≤ c.month = omega (arith, ints, date.1.0) in
    let month_to : c.month ≤ 12 = omega (arith, ints, date.1.1) in
    let day_from : 1 ≤ c.day = omega (arith, ints, date.2.0) in
    let day_to : c.day ≤ days_in_month (pos c.year) c.month = omega (arith, ints, date.2.1) in
    let few : days_in_month (pos c.year) c.month ≤ 31 = (days_in_month_bounds (pos c.year) c.month).0 in
    let year_is : (c.year * 416 + c.month * 32 + c.day) / 416 ≡ c.year = omega arith in
    let month_is : (c.year * 416 + c.month * 32 + c.day) % 416 / 32 ≡ c.month = omega arith in
    let day_is : (c.year * 416 + c.month * 32 + c.day) % 32 ≡ c.day = omega arith in
    record {
      month_from = rw month_is month_from;
      month_to = rw month_is month_to;
      day_from = rw day_is day_from;
      day_to = rw (year_is, month_is, day_is) day_to;
      days_are = rw (year_is, month_is, day_is) are;
    }

real_at : (days place second : ℕ) → place < 4_160_000 → second < 86_400 → IsDateAt days place → IsReal (clock_of place second)
real_at days place second less day date =
    let month_from = date.month_from in
    let month_to = date.month_to in
    let day_from = date.day_from in
    let day_to = date.day_to in
    record {
      date = ((omega (arith, ints), omega (arith, ints)), (omega (arith, ints), omega (arith, ints)), (omega (arith, ints), omega (arith, ints)));
      hour = omega arith;
      minute = omega arith;
      second = omega arith;
    }

second_again : (second : ℕ) → second / 3600 * 3600 + second / 60 % 60 * 60 + second % 60 ≡ second
second_again second = omega arith

-- ---- the parts of a moment

record HasParts (moment days second nanos : ℕ) : Type 0 where
  days_are : days_of moment ≡ days
  second_is : moment / 1_000_000_000 % 86_400 ≡ second
  nanos_are : moment % 1_000_000_000 ≡ nanos

below_day : (c : Clock) → IsReal c → second_of_day c < 86_400
below_day c real =
    let hour : c.hour < 24 = real.hour in
    let minute : c.minute < 60 = real.minute in
    let second : c.second < 60 = real.second in
    omega arith

-- a number of days, a second of the day and nanoseconds in one number
parts_by : (moment days second nanos : ℕ) → second < 86_400 → nanos < 1_000_000_000 → 3_652_791 ≤ days
    → moment ≡ ((days - 3_652_791) * 86_400 + second) * 1_000_000_000 + nanos → HasParts moment days second nanos
parts_by moment days second nanos day few from is = record {
  days_are = omega arith;
  second_is = omega arith;
  nanos_are = omega arith;
}

parts_of : (moment nanos : ℕ) (c : Clock) → IsReal c → nanos < 1_000_000_000 → pos moment ≡ since_least (clock_seconds c) nanos
    → HasParts moment (day_count (pos c.year) c.month c.day) (second_of_day c) nanos
parts_of moment nanos c real few is =
    let day = below_day c real in
    let count = days_from_civil-day_count (pos c.year) c.month c.day in
    let from : 3_652_791 ≤ day_count (pos c.year) c.month c.day = omega (arith, signed_arith, count) in
    parts_by moment (day_count (pos c.year) c.month c.day) (second_of_day c) nanos day few from (omega (arith, signed_arith, count))

same_days : (y z m n d e : ℕ) → day_count (pos y) m d ≡ day_count (pos z) n e → days_from_civil (pos y) m d ≡ days_from_civil (pos z) n e
same_days y z m n d e same =
    omega (arith, signed_arith, days_from_civil-day_count (pos y) m d, days_from_civil-day_count (pos z) n e)

same_seconds : (c : Clock) (place : ℕ) → IsDateAt (day_count (pos c.year) c.month c.day) place
    → clock_seconds (clock_of place (second_of_day c)) ≡ clock_seconds c
same_seconds c place date =
    let days = same_days (place / 416) c.year (place % 416 / 32) c.month (place % 32) c.day date.days_are in
    rw (days, second_again (second_of_day c)) refl

-- two texts that are written for a moment are the same
abbrev pub AreOne : Type 0
AreOne = (m : ℕ) (text other : List ℕ) → WritesMoment m text → WritesMoment m other → text ≡ other

text_by : AreOne → (moment place second nanos : ℕ) (text : List ℕ) (w : WritesMoment moment text) → second ≡ second_of_day w.clock → nanos ≡ w.nanos → place < 4_160_000
    → IsDateAt (day_count (pos w.clock.year) w.clock.month w.clock.day) place
    → text ≡ written_text (clock_of place second) (nanos / 1_000_000)
text_by one moment place second nanos text w second_is nanos_are less date =
    let same = same_seconds w.clock place date in
    rw (second_is, nanos_are)
    (one moment text (written_text (clock_of place (second_of_day w.clock)) (w.nanos / 1_000_000)) w
    (record {
      clock = clock_of place (second_of_day w.clock);
      nanos = w.nanos;
      real = real_at (day_count (pos w.clock.year) w.clock.month w.clock.day) place (second_of_day w.clock) less (below_day w.clock w.real) date;
      parts = rw same w.parts;
      moment = rw same w.moment;
      spelled = refl;
    }))

pub text_is : AreOne → (moment : ℕ) (text : List ℕ) → WritesMoment moment text → text ≡ moment_text moment
unfolding moment_text
text_is one moment text w =
    let parts = parts_of moment w.nanos w.clock w.real w.parts.below_second w.moment in
    let place = greatest_below 4_160_000 (is_date_of (days_of moment)) in
    let days = day_count (pos w.clock.year) w.clock.month w.clock.day in
    let year : w.clock.year < 10_000 = omega (arith, ints, w.real.date.0) in
    let few = days_in_month_bounds (pos w.clock.year) w.clock.month in
    let there : w.clock.year * 416 + w.clock.month * 32 + w.clock.day < 4_160_000 = omega (arith, ints, w.real.date.1.1, w.real.date.2.1, few.0) in
    let passing = passes (days_of moment) (w.clock.year * 416 + w.clock.month * 32 + w.clock.day) (in_place w.clock (days_of moment) w.real (sym parts.days_are)) in
    let date = is_date (days_of moment) place (found 4_160_000 (is_date_of (days_of moment)) (w.clock.year * 416 + w.clock.month * 32 + w.clock.day) there passing) in
    text_by one moment place (moment / 1_000_000_000 % 86_400) (moment % 1_000_000_000) text w parts.second_is parts.nanos_are (below 4_160_000 (is_date_of (days_of moment)) (omega arith))
    (subst (λ d. IsDateAt d place) parts.days_are date)
