-- The result of reading a file whose bytes are known.
use Rattle.std.specs.Prelude.{◌≡◌, ℕ, List, [], ◌∷◌, ◌++◌, length, Option, Some, None, ⊤, IfSome}
use Rattle.am_store.specs.Blocks.{first_block, recovered}
use Rattle.am_store.specs.declared.batches.FoundBlock.{FoundBlock}
use Rattle.am_store.specs.declared.batches.FoundBlock.TheVariants.{Whole, Part}

-- the first batch of what was left is this, and the others are those of what is left now
abbrev pub IsNext : Option (List ℕ) → Option (List ℕ) → List ℕ → Type 0
IsNext None left batch = ⊤
IsNext (Some file) None batch = ⊥
IsNext (Some file) (Some left) batch = recovered file ≡ batch ∷ recovered left

-- a file that was left has no batch, and this number of bytes
abbrev pub IsLast : Option (List ℕ) → ℕ → Type 0
IsLast left bytes = IfSome left (λ file. (recovered file ≡ []) × (bytes ≡ length file))

-- the bytes are one block, or begin none, with `left` behind them
abbrev pub IsFound : List ℕ → Option (List ℕ) → FoundBlock → Type 0
IsFound bytes left (Whole batch) = (rest : List ℕ) → first_block (bytes ++ rest) ≡ Some (batch.items, rest)
IsFound bytes left (Part read) = (read ≡ length bytes) × IfSome left (λ rest. first_block (bytes ++ rest) ≡ None)
