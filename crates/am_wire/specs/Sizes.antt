-- The lengths of fields before they are written.
use Rattle.std.specs.Prelude.{ℕ, ◌-◌, ◌^◌, min}

-- a length as it is counted: everything from 2 ^ 64 - 1 on counts as that
abbrev pub counted : ℕ → ℕ
counted n = min n (2 ^ 64 - 1)
