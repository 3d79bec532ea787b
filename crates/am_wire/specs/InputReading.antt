-- Bytes read from a reader and appended to a list.
use Rattle.std.specs.Prelude.{◌≡◌, ℕ, ◌+◌, ◌<◌, ◌≤◌, Bool, true, false, List, ◌++◌, length, Option, Result, Ok, Err}
use Rattle.std.specs.Io.KnownBytes.{Consumes, IsAtEnd}
use Rattle.am_wire.specs.declared.input.Stop.{Stop}
use Rattle.am_wire.specs.declared.input.Stop.TheVariants.{Read, Memory}

-- the bytes that the reader gave are appended
pub record HasGrown (old new : Option (List ℕ)) (before after : List ℕ) : Type 0 where
  pub piece : List ℕ
  pub consumed : Consumes old new piece
  pub appended : after ≡ before ++ piece

-- One read: at most 4,096 bytes came, for a total of at most `most`; or none came, because the input ended, the read failed,
-- or there was no memory for them.
abbrev pub ReadsOnce : ℕ → Option (List ℕ) → Option (List ℕ) → List ℕ → List ℕ → Result Bool Stop → Type 0
ReadsOnce most old new before after (Ok true) =
    HasGrown old new before after × (length before < length after) × (length after ≤ most) × (length after ≤ length before + 4096)
ReadsOnce most old new before after (Ok false) = HasGrown old new before after × (after ≡ before) × (length after < most) × IsAtEnd new
ReadsOnce most old new before after (Err Read) = HasGrown old new before after × (after ≡ before)
ReadsOnce most old new before after (Err Memory) =
    (lost : List ℕ) × HasGrown old new before (after ++ lost) × (after ≡ before) × (length (after ++ lost) ≤ most)
    × (length (after ++ lost) ≤ length before + 4096)

-- Successive reads: `IsOpen` holds of the bytes present before the last read, and the last read gave the result.
pub record ReadsOn (IsOpen : List ℕ → Type 0) (most : ℕ) (old new : Option (List ℕ)) (before after : List ℕ) (result : Result Bool Stop) : Type 0 where
  pub mid : List ℕ
  pub left : Option (List ℕ)
  pub grown : HasGrown old left before mid
  pub open_ : IsOpen mid
  pub last : ReadsOnce most left new mid after result
