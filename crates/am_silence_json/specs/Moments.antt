-- The moment spelled by a text: a date-time of RFC 3339 without leap seconds, from year 1 to year 9999.
use Rattle.std.specs.Prelude.{◌≡◌, ℕ, ℤ, pos, ◌-ℤ◌, List, drop}
use Rattle.am_version_order.specs.Moments.{AreParts, since_least}
use Rattle.am_silence_json.specs.declared.moments.clock.Clock.{Clock}
use Rattle.am_silence_json.specs.declared.moments.read.DateTime.{DateTime}
use Rattle.am_silence_json.specs.declared.moments.zone.Offset.{Offset}
use Rattle.am_silence_json.specs.Clocks.{IsClockText, IsReal, clock_seconds}
use Rattle.am_silence_json.specs.Fractions.{IsFraction}
use Rattle.am_silence_json.specs.Zones.{IsZone, seconds_ahead}

-- the seconds since 1970 in UTC at which a clock with this offset has this reading
abbrev pub utc_seconds : Clock → Offset → ℤ
utc_seconds c o = clock_seconds c -ℤ seconds_ahead o

-- the moment at which a clock with this offset has this reading plus nanoseconds, if that is a moment
pub record IsMomentOf (c : Clock) (nanos : ℕ) (o : Offset) (m : ℕ) : Type 0 where
  pub real : IsReal c
  pub parts : AreParts (utc_seconds c o) nanos
  pub moment : pos m ≡ since_least (utc_seconds c o) nanos

-- the text is a date and a time of day, an optional fraction, and an offset
pub record IsDateTime (text : List ℕ) (d : DateTime) : Type 0 where
  pub clock : IsClockText text d.clock
  pub fraction : IsFraction (drop 19 text) d.fraction
  pub offset : IsZone (drop d.fraction.size (drop 19 text)) d.offset

-- the text spells the moment
pub record ReadsMoment (text : List ℕ) (m : ℕ) : Type 0 where
  pub spelled : DateTime
  pub date_time : IsDateTime text spelled
  pub moment : IsMomentOf spelled.clock spelled.fraction.nanos spelled.offset m
