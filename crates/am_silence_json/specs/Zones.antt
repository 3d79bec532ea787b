-- Offsets from UTC: `Z`, or a sign, hours and minutes.
use Rattle.std.specs.Prelude.{◌≡◌, ◌⊎◌, ℕ, ◌+◌, ◌*◌, ◌<◌, Bool, true, false, if◌then◌else◌, ℤ, pos, neg_ℤ, List, length, slice_index}
use Rattle.am_silence_json.specs.declared.moments.zone.Offset.{Offset}
use Rattle.am_silence_json.specs.Digits.{HasTwo}

-- `Z` or `z`, for no offset
pub record IsUtc (text : List ℕ) (o : Offset) : Type 0 where
  pub size : length text ≡ 1
  pub letter : (slice_index text 0 ≡ 90) ⊎ (slice_index text 0 ≡ 122)
  pub behind : o.behind ≡ false
  pub hours : o.hours ≡ 0
  pub minutes : o.minutes ≡ 0

-- the sign of an offset: `+` if the clock is ahead of UTC, and `-` if it is behind
abbrev pub IsSign : ℕ → Bool → Type 0
IsSign byte behind = ((byte ≡ 43) × (behind ≡ false)) ⊎ ((byte ≡ 45) × (behind ≡ true))

-- a sign and HH:MM, less than a day
pub record IsNumeric (text : List ℕ) (o : Offset) : Type 0 where
  pub size : length text ≡ 6
  pub sign : IsSign (slice_index text 0) o.behind
  pub hours : HasTwo text 1 o.hours
  pub mark : slice_index text 3 ≡ 58
  pub minutes : HasTwo text 4 o.minutes
  pub below_day : o.hours < 24
  pub below_hour : o.minutes < 60

-- the whole text is this offset
abbrev pub IsZone : List ℕ → Offset → Type 0
IsZone text o = IsUtc text o ⊎ IsNumeric text o

-- the number of seconds in an offset, without its sign
abbrev pub offset_size : Offset → ℕ
offset_size o = o.hours * 3600 + o.minutes * 60

-- the number of seconds by which the clock is ahead of UTC
abbrev pub seconds_ahead : Offset → ℤ
seconds_ahead o = if o.behind then neg_ℤ (pos (offset_size o)) else pos (offset_size o)
