-- A written text is read again.
use Rattle.std.proofs.Common.{◌≡◌, ℕ, ◌+◌, ◌-◌, ◌*◌, ◌/◌, ◌%◌, ◌<◌, List, [], ◌∷◌, length, ℤ, pos, ◌-ℤ◌, true, false, arith, refl, inl, inr}
use Rattle.std.specs.Char.{is_ascii_digit}
use Rattle.std.specs.List.{take_while}
use Rattle.std.proofs.lemmas.Bool.Decides.{nat_tests}
use Rattle.std.proofs.lemmas.Int.{ints}
use Rattle.jiff_core.proofs.CalendarLemmas.{days_in_month_bounds}
use Rattle.am_version_order.specs.Moments.{AreParts, since_least}
use Rattle.am_silence_json.specs.declared.moments.clock.Clock.{Clock}
use Rattle.am_silence_json.specs.declared.moments.fraction.Fraction.{Fraction}
use Rattle.am_silence_json.specs.declared.moments.zone.Offset.{Offset}
use Rattle.am_silence_json.specs.Clocks.{IsClockText, IsReal, clock_seconds}
use Rattle.am_silence_json.specs.Fractions.{IsPointed, IsFraction, fraction_nanos}
use Rattle.am_silence_json.specs.Moments.{IsMomentOf, ReadsMoment}
use Rattle.am_silence_json.specs.Written.{written_text, WritesMoment}

digit_passes : (n : ℕ) → n < 10 → is_ascii_digit (48 + n) ≡ true
digit_passes n h = grind (arith, nat_tests)

three_digits_taken : (a b c : ℕ) → a < 10 → b < 10 → c < 10
    → take_while is_ascii_digit ((48 + a) ∷ (48 + b) ∷ (48 + c) ∷ 90 ∷ []) ≡ (48 + a) ∷ (48 + b) ∷ (48 + c) ∷ []
three_digits_taken a b c ha hb hc = rw (digit_passes a ha, digit_passes b hb, digit_passes c hc) refl

pointed : (rest ds : List ℕ) (f : Fraction) → take_while is_ascii_digit rest ≡ ds → 0 < length ds
    → f.nanos ≡ fraction_nanos 100_000_000 ds → f.size ≡ 1 + length ds → IsPointed (46 ∷ rest) f
pointed rest ds f e some nanos size = record { point = refl; digit = rw e some; nanos = rw e nanos; size = rw e size }

-- the offset of a written text, and its fraction
abbrev utc : Offset
utc = record { behind = false; hours = 0; minutes = 0 }

abbrev cut : ℕ → Fraction
cut millis = record { nanos = millis * 1_000_000; size = 4 }

fraction_again : (millis : ℕ) → millis < 1000
    → IsFraction (46 ∷ (48 + millis / 100) ∷ (48 + millis % 100 / 10) ∷ (48 + millis % 100 % 10) ∷ 90 ∷ []) (cut millis)
fraction_again millis few =
    let a : millis / 100 < 10 = omega arith in
    let b : millis % 100 / 10 < 10 = omega arith in
    let c : millis % 100 % 10 < 10 = omega arith in
    inr (pointed _ _ (cut millis) (three_digits_taken _ _ _ a b c) (omega arith) (omega arith) refl)

clock_again : (c : Clock) (millis : ℕ) → IsReal c → c.year < 10000 → c.month < 100 → c.day < 100 → IsClockText (written_text c millis) c
clock_again c millis real year month day =
    let hour : c.hour < 24 = real.hour in
    let minute : c.minute < 60 = real.minute in
    let second : c.second < 60 = real.second in
    record {
      marks = record { behind_year = refl; behind_month = refl; behind_date = inl refl; behind_hour = refl; behind_minute = refl };
      century = record { tens = record { below = omega arith; here = refl }; ones = record { below = omega arith; here = refl } };
      year = record { tens = record { below = omega arith; here = refl }; ones = record { below = omega arith; here = refl } };
      month = record { tens = record { below = omega arith; here = refl }; ones = record { below = omega arith; here = refl } };
      day = record { tens = record { below = omega arith; here = refl }; ones = record { below = omega arith; here = refl } };
      hour = record { tens = record { below = omega arith; here = refl }; ones = record { below = omega arith; here = refl } };
      minute = record { tens = record { below = omega arith; here = refl }; ones = record { below = omega arith; here = refl } };
      second = record { tens = record { below = omega arith; here = refl }; ones = record { below = omega arith; here = refl } };
    }

none_ahead : (z : ℤ) → z -ℤ pos 0 ≡ z
none_ahead z = omega (arith, ints)

cut_is : (z : ℤ) (nanos m : ℕ) → AreParts z nanos → pos m ≡ since_least z nanos
    → pos (m - m % 1_000_000) ≡ since_least z (nanos / 1_000_000 * 1_000_000)
cut_is z nanos m parts e = omega (arith, ints)

moment_again : (c : Clock) (nanos m : ℕ) → IsReal c → AreParts (clock_seconds c) nanos → pos m ≡ since_least (clock_seconds c) nanos
    → IsMomentOf c (nanos / 1_000_000 * 1_000_000) utc (m - m % 1_000_000)
moment_again c nanos m real parts e =
    let below : nanos < 1_000_000_000 = parts.below_second in
    record {
      real = real;
      parts =
          rw (none_ahead (clock_seconds c)) (record { not_before = parts.not_before; not_after = parts.not_after; below_second = omega arith });
      moment = rw (none_ahead (clock_seconds c)) (cut_is (clock_seconds c) nanos m parts e);
    }

pub real_bounds : (c : Clock) → IsReal c → (c.year < 10000) × (c.month < 100) × (c.day < 100)
real_bounds c real =
    let date = real.date in
    (omega (arith, ints, date.0.1), omega (arith, ints, date.1.1), omega (arith, ints, date.2.1, days_in_month_bounds (pos c.year) c.month))

read_back : (c : Clock) (nanos m : ℕ) → IsReal c → AreParts (clock_seconds c) nanos → pos m ≡ since_least (clock_seconds c) nanos
    → ReadsMoment (written_text c (nanos / 1_000_000)) (m - m % 1_000_000)
read_back c nanos m real parts e =
    let bounds = real_bounds c real in
    let below : nanos < 1_000_000_000 = parts.below_second in
    record {
      spelled = record { clock = c; fraction = cut (nanos / 1_000_000); offset = utc };
      date_time = record {
        clock = clock_again c (nanos / 1_000_000) real bounds.0 bounds.1 bounds.2;
        fraction = fraction_again (nanos / 1_000_000) (omega arith);
        offset = inl (record { size = refl; letter = inl refl; behind = refl; hours = refl; minutes = refl });
      };
      moment = moment_again c nanos m real parts e;
    }

-- what is written for a moment spells it, cut to milliseconds
pub texts_read : (m : ℕ) (text : List ℕ) → WritesMoment m text → ReadsMoment text (m - m % 1_000_000)
texts_read m text w = rw w.spelled (read_back w.clock w.nanos m w.real w.parts w.moment)
