-- Canonical encodings, read from the front.
use Rattle.std.specs.Prelude.{◌≡◌, ℕ, ◌<◌, ◌^◌, List, ◌++◌, All}
use Rattle.std.specs.List.{flat_map}
use Rattle.am_wire.specs.declared.offset.Offset.{Offset}
use Rattle.am_wire.specs.Offsets.{StandsAt}
use Rattle.am_wire.specs.Varint.{shortest}
use Rattle.am_wire.specs.Writing.{writes_numbers}

-- the progress of a reader: the whole text, and the part of it that is passed
pub record Passing : Type 0 where
  pub text : List ℕ
  pub passed : List ℕ

-- between two states of a reader exactly this part of the text is passed
pub record Passes (part : List ℕ) (old new : Passing) : Type 0 where
  pub text : new.text ≡ old.text
  pub passed : new.passed ≡ old.passed ++ part

-- the part is numbers of 64 bits, one after another, each in its shortest spelling
pub record ArePacked (part : List ℕ) : Type 0 where
  pub numbers : List ℕ
  pub short : All (λ n. n < 2 ^ 64) numbers
  pub is : part ≡ flat_map shortest numbers

-- between two states of a reader exactly the field of some numbers is passed, and they are at this place
pub record PassesNumbers (number : ℕ) (place : Offset) (old new : Passing) : Type 0 where
  pub numbers : List ℕ
  pub short : All (λ n. n < 2 ^ 64) numbers
  pub passes : Passes (writes_numbers number numbers) old new
  pub stands : StandsAt (flat_map shortest numbers) place new.passed
