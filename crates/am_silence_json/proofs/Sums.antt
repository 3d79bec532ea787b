-- Seconds of UTC out of what a clock shows.
use Rattle.std.proofs.Common.{◌≡◌, ℕ, ◌+◌, ◌-◌, ◌≤◌, ℤ, pos, ◌+ℤ◌, true, false, arith}
use Rattle.std.proofs.lemmas.Int.{ints}
use Rattle.am_silence_json.specs.declared.moments.clock.Clock.{Clock}
use Rattle.am_silence_json.specs.declared.moments.zone.Offset.{Offset}
use Rattle.am_silence_json.specs.Clocks.{clock_seconds}
use Rattle.am_silence_json.specs.Zones.{offset_size}
use Rattle.am_silence_json.specs.Moments.{utc_seconds}

pub utc_behind :
    (c : Clock) (o : Offset) (shown size k : ℕ) (z : ℤ) → o.behind ≡ true → pos shown ≡ clock_seconds c +ℤ pos k → size ≡ offset_size o
    → z +ℤ pos k ≡ pos (shown + size) → z ≡ utc_seconds c o
utc_behind c o shown size k z b e f g = rw b (omega (arith, ints))

pub utc_ahead :
    (c : Clock) (o : Offset) (shown size k : ℕ) (z : ℤ) → o.behind ≡ false → size ≤ shown → pos shown ≡ clock_seconds c +ℤ pos k
    → size ≡ offset_size o → z +ℤ pos k ≡ pos (shown - size) → z ≡ utc_seconds c o
utc_ahead c o shown size k z b h e f g = rw b (omega (arith, ints))
