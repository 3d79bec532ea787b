-- A stand-in for a file of whole blocks.
use Rattle.std.specs.Prelude.{ℕ, zero, suc, ◌-◌, List, [], ◌∷◌, ◌++◌, replicate}
use Rattle.std.specs.Int.{w64, to_le_bytes}

-- one whole block of this length, 9 bytes or more, or nothing
unfoldable pub stand_in : ℕ → List ℕ
stand_in zero = []
stand_in (suc more) = 1 ∷ to_le_bytes w64 (more - 8) ++ replicate (more - 8) 0 ++ []
