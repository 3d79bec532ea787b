-- The meaning of an error for a pattern.
use Rattle.std.specs.Prelude.{ℕ, ◌≤◌, List, length}
use Rattle.am_matcher.specs.declared.re2.translation.Re2Error.{Re2Error}
use Rattle.am_matcher.specs.declared.re2.translation.Re2Error.TheVariants.{Refused, Memory}
use Rattle.am_matcher.specs.Re2.{IsRe2}

-- the pattern isn't taken, and the fault is at a place in it; or memory ran out
abbrev pub IsFault : List ℕ → Re2Error → Type 0
IsFault pattern (Refused at) = (¬ IsRe2 pattern) × (at ≤ length pattern)
IsFault pattern Memory = Unit {0}
