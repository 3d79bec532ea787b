-- The part of the bytes that a writer took.
use Rattle.std.specs.Prelude.{◌≡◌, ℕ, ◌+◌, List, ◌++◌, length, Option}
use Rattle.std.specs.Io.KnownBytes.{Appends}
use Rattle.am_wire.specs.OutputWriting.{WritesPart}

-- of the bytes that waited and those added to them, the writer took the front, and the rest waits
pub record Passes (old new : Option (List ℕ)) (waiting added left : List ℕ) (before after : ℕ) : Type 0 where
  pub sent : List ℕ
  pub went_out : Appends old new sent
  pub whole : waiting ++ added ≡ sent ++ left
  pub count : after ≡ before + length sent

-- the writer took the front of the bytes, and not all of them
abbrev pub TakesPart : Option (List ℕ) → Option (List ℕ) → List ℕ → ℕ → ℕ → Type 0
TakesPart old new bytes before after = (n : ℕ) × WritesPart old new bytes n × (after ≡ before + n)
