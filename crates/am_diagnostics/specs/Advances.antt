-- The advance of a member's time ahead of the time that has passed.
use Rattle.std.specs.Prelude.{ℕ, ◌+◌, ◌-◌, ◌<◌, Option, Some, None}
use Rattle.std.specs.Duration.{as_nanos}
use Rattle.std.specs.Time.{instant_nanos}
use Rattle.am_peers.specs.Moments.{before_1970}
use Rattle.am_diagnostics.specs.declared.advance.ClockReading.{ClockReading}

-- the time by which a moment is ahead of a clock's reading and the time that has passed since
abbrev pub advance : ClockReading → ℕ → ℕ → ℕ
advance reading moment now = moment - (before_1970 + as_nanos reading.since_1970 + (now - instant_nanos reading.at))

-- The moment is ahead of what was last believed by more than the retention.
abbrev pub IsFarAhead : Option ClockReading → ℕ → ℕ → ℕ → Type 0
IsFarAhead None retention moment now = ⊥
IsFarAhead (Some reading) retention moment now = retention < advance reading moment now
