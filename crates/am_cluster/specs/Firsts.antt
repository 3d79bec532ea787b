-- The lesser of two numbers, or the only one.
use Rattle.std.specs.Prelude.{ℕ, Option, Some, None, min}

-- the lesser of two numbers of which each may be missing
abbrev pub earlier : Option ℕ → Option ℕ → Option ℕ
earlier None second = second
earlier (Some first) None = Some first
earlier (Some first) (Some second) = Some (min first second)
