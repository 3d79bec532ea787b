-- A text spells one moment.
use Rattle.std.proofs.Common.{◌≡◌, ℕ, ◌/◌, ◌%◌, List, drop, pos, inl, inr, arith, refl, sym, ap, ◌∙◌}
use Rattle.std.proofs.lemmas.Int.{ints}
use Rattle.am_version_order.specs.Moments.{since_least}
use Rattle.am_silence_json.specs.declared.moments.clock.Clock.{Clock}
use Rattle.am_silence_json.specs.declared.moments.fraction.Fraction.{Fraction}
use Rattle.am_silence_json.specs.declared.moments.zone.Offset.{Offset}
use Rattle.am_silence_json.specs.declared.moments.read.DateTime.{DateTime}
use Rattle.am_silence_json.specs.Digits.{HasTwo}
use Rattle.am_silence_json.specs.Clocks.{IsClockText}
use Rattle.am_silence_json.specs.Fractions.{IsFraction}
use Rattle.am_silence_json.specs.Zones.{IsZone, IsSign}
use Rattle.am_silence_json.specs.Moments.{IsDateTime, ReadsMoment, utc_seconds}

two_same : {text : List ℕ} {place n k : ℕ} → HasTwo text place n → HasTwo text place k → n ≡ k
two_same {text} {place} {n} {k} h g =
    let tens : n / 10 ≡ k / 10 = omega (arith, h.tens.here, g.tens.here) in
    let ones : n % 10 ≡ k % 10 = omega (arith, h.ones.here, g.ones.here) in omega arith

clocks_same : (text : List ℕ) (c e : Clock) → IsClockText text c → IsClockText text e → c ≡ e
clocks_same text c e h g =
    let century : c.year / 100 ≡ e.year / 100 = two_same h.century g.century in
    let rest : c.year % 100 ≡ e.year % 100 = two_same h.year g.year in
    let year : c.year ≡ e.year = omega arith in
    rw (year, two_same h.month g.month, two_same h.day g.day, two_same h.hour g.hour, two_same h.minute g.minute, two_same h.second g.second) refl

fractions_same : (text : List ℕ) (f g : Fraction) → IsFraction text f → IsFraction text g → f ≡ g
fractions_same text f g (inl h) (inl k) = rw (h.nanos, h.size, k.nanos, k.size) refl
fractions_same text f g (inl h) (inr k) = absurd (h.no_point k.point)
fractions_same text f g (inr h) (inl k) = absurd (k.no_point h.point)
fractions_same text f g (inr h) (inr k) = rw (h.nanos, h.size, k.nanos, k.size) refl

signs_same : {byte : ℕ} (o p : Offset) → IsSign byte o.behind → IsSign byte p.behind → o.behind ≡ p.behind
signs_same o p (inl h) (inl k) = h.1 ∙ sym k.1
signs_same o p (inl h) (inr k) = absurd (omega (arith, h.0, k.0))
signs_same o p (inr h) (inl k) = absurd (omega (arith, h.0, k.0))
signs_same o p (inr h) (inr k) = h.1 ∙ sym k.1

zones_same : (text : List ℕ) (o p : Offset) → IsZone text o → IsZone text p → o ≡ p
zones_same text o p (inl h) (inl k) = rw (h.behind, h.hours, h.minutes, k.behind, k.hours, k.minutes) refl
zones_same text o p (inl h) (inr k) = absurd (omega (arith, h.size, k.size))
zones_same text o p (inr h) (inl k) = absurd (omega (arith, h.size, k.size))
zones_same text o p (inr h) (inr k) = rw (signs_same o p h.sign k.sign, two_same h.hours k.hours, two_same h.minutes k.minutes) refl

date_times_same : (text : List ℕ) (d e : DateTime) → IsDateTime text d → IsDateTime text e → d ≡ e
date_times_same text d e h k =
    let clock : d.clock ≡ e.clock = clocks_same text d.clock e.clock h.clock k.clock in
    let fraction : d.fraction ≡ e.fraction = fractions_same (drop 19 text) d.fraction e.fraction h.fraction k.fraction in
    let zone = rw fraction at h.offset in
    let offset : d.offset ≡ e.offset = zones_same _ d.offset e.offset zone k.offset in
    rw (clock, fraction, offset) refl

pub one_moment : (text : List ℕ) (m n : ℕ) → ReadsMoment text m → ReadsMoment text n → m ≡ n
one_moment text m n h k =
    let same : h.spelled ≡ k.spelled = date_times_same text h.spelled k.spelled h.date_time k.date_time in
    let moment : pos m ≡ pos n =
    h.moment.moment ∙ ap (λ (d : DateTime). since_least (utc_seconds d.clock d.offset) d.fraction.nanos) same ∙ sym k.moment.moment in
    omega (arith, ints, moment)
