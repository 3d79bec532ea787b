-- The batches that a file of blocks stands for.
use Rattle.std.specs.Prelude.{◌≡◌, ◌⊎◌, ℕ, zero, suc, ◌+◌, nat_le, ◌==◌, ◌&&◌, List, [], ◌∷◌, ◌++◌, length, take, drop, if◌then◌else◌, Option, Some, None}
use Rattle.std.specs.Int.{w64, from_le_bytes}

-- the length of the batch behind a gate, in eight bytes
unfoldable pub batch_size : List ℕ → ℕ
batch_size after = from_le_bytes w64 (take 8 after)

-- the first block's batch and the bytes behind it, if its gate is open and it is whole
abbrev pub first_block : List ℕ → Option (List ℕ × List ℕ)
first_block [] = None
first_block (gate ∷ after) =
    if gate == 1 && nat_le (8 + batch_size after) (length after)
    then Some (take (batch_size after) (drop 8 after), drop (8 + batch_size after) after)
    else None

-- the first batch, and those of the bytes behind it
abbrev pub batch_and : (List ℕ → List (List ℕ)) → Option (List ℕ × List ℕ) → List (List ℕ)
batch_and others None = []
batch_and others (Some block) = block.0 ∷ others block.1

-- the batches of at most `most` blocks
unfoldable pub recovered_within : ℕ → List ℕ → List (List ℕ)
recovered_within zero file = []
recovered_within (suc most) file = batch_and (recovered_within most) (first_block file)

-- the batches of the blocks up to the first that is closed or cut short
unfoldable pub recovered : List ℕ → List (List ℕ)
recovered file = recovered_within (length file) file

-- the number of bytes in the blocks of these batches
abbrev pub blocks_length : List (List ℕ) → ℕ
blocks_length [] = 0
blocks_length (batch ∷ batches) = 9 + length batch + blocks_length batches

-- the file is whole open blocks, which take `end` bytes, followed by a closed gate
abbrev pub IsAtRest : ℕ → List ℕ → Type 0
IsAtRest end file = (file ≡ take end file ++ 0 ∷ []) × (end ≡ blocks_length (recovered file))

-- the batches with one more; an empty one adds nothing
abbrev pub with_batch : List (List ℕ) → List ℕ → List (List ℕ)
with_batch batches [] = batches
with_batch batches (byte ∷ more) = batches ++ (byte ∷ more) ∷ []

-- the file stands for the batches, with or without one more
abbrev pub IsBeforeOrAfter : List (List ℕ) → List ℕ → List ℕ → Type 0
IsBeforeOrAfter batches batch file = (recovered file ≡ batches) ⊎ (recovered file ≡ with_batch batches batch)
