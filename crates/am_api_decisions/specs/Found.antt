-- The values at the keys of an object.
use Rattle.std.specs.Prelude.{ℕ, List, Option, option_and_then}
use Rattle.serde_json.specs.Data.{Data}
use Rattle.serde_json.specs.Find.{get, as_number, as_u64}

-- a whole number of 64 bits, written without a point and without an exponent
abbrev pub number_in : List ℕ → Data → Option ℕ
number_in key d = option_and_then as_u64 (option_and_then as_number (get key d))
