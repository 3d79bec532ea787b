-- Lists of items, divided into blocks.
use Rattle.std.specs.Prelude.{◌≡◌, ℕ, ◌+◌, ◌<◌, ◌≤◌, List, [], length, refl}
use Rattle.std.specs.List.{All, flat_map}
use Rattle.std.specs.Coded.{Coded, code_by, coded×, coded_ℕ, coded_list}

-- the items block by block, the number of empty blocks in reserve, and the number of blocks that can be listed
pub record Rows (T : Type 0) : Type 0 where
  pub blocks : List (List T)
  pub spare : ℕ
  pub capacity : ℕ

-- the code of rows, which are stored as the tuple of their fields
abbrev pub rows_code : {T : Type 0} → Coded T → Coded (Rows T)
rows_code {T} code =
    code_by
    (List (List T) × (ℕ × ℕ))
    (coded× (coded_list (coded_list code)) (coded× coded_ℕ coded_ℕ))
    (λ rows. (rows.blocks, (rows.spare, rows.capacity)))
    (λ p. record { blocks = p.0; spare = p.1.0; capacity = p.1.1 })
    (λ _. refl)

module _ {T : Type 0} where
  -- the items of blocks, one block after another
  abbrev pub joined : List (List T) → List T
  joined blocks = flat_map (λ block. block) blocks

  -- the items of a list
  abbrev pub entries : Rows T → List T
  entries rows = joined rows.blocks

  -- each block has an item, and none is full
  abbrev pub AreSound : List (List T) → Type 0
  AreSound blocks = All (λ block. (0 < length block) × (length block < 128)) blocks

  -- no block has an item
  abbrev pub AreEmpty : List (List T) → Type 0
  AreEmpty blocks = All (λ block. block ≡ []) blocks

  -- n insertions need no memory
  pub record HasRoom (rows : Rows T) (n : ℕ) : Type 0 where
    pub spares : n ≤ rows.spare
    pub places : length rows.blocks + n ≤ rows.capacity
