-- The moments of a member's events.
use Rattle.std.specs.Prelude.{ℕ, ◌+◌, min, max}
use Rattle.am_version_order.specs.Moments.{greatest}

-- the nanoseconds from the first moment to 1970-01-01T00:00:00Z
abbrev pub before_1970 : ℕ
before_1970 = 62_135_596_800_000_000_000

-- the moment of a clock's time in nanoseconds since 1970, but never past the last moment
abbrev pub clock_moment : ℕ → ℕ
clock_moment since_1970 = min greatest (before_1970 + since_1970)

-- the later of a clock's moment and the moment of the last event
abbrev pub later_moment : ℕ → ℕ → ℕ
later_moment since_1970 last = max (clock_moment since_1970) last
