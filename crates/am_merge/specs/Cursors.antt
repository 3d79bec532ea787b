-- Places in lists of blocks.
use Rattle.std.specs.Prelude.{ℕ, ◌+◌, ◌<◌, ◌≤◌, List, [], length, take, slice_index_or}
use Rattle.am_merge.specs.declared.blocks.cursor.Cursor.{Cursor}
use Rattle.am_merge.specs.Rows.{Rows, joined}

module _ {T : Type 0} where
  -- the items of a cursor's block, which are none behind the last block
  abbrev pub block_at : List (List T) → Cursor → List T
  block_at blocks cursor = slice_index_or blocks cursor.block []

  -- the number of items of these blocks before a cursor
  abbrev pub place_in : List (List T) → Cursor → ℕ
  place_in blocks cursor = length (joined (take cursor.block blocks)) + cursor.offset

  -- the number of a list's items before a cursor
  abbrev pub place : Rows T → Cursor → ℕ
  place rows cursor = place_in rows.blocks cursor

  -- the cursor is at an item
  pub record IsItem (rows : Rows T) (cursor : Cursor) : Type 0 where
    pub offset : cursor.offset < length (block_at rows.blocks cursor)

  -- the cursor is within a block or at its end, or behind the last block
  pub record IsWithin (rows : Rows T) (cursor : Cursor) : Type 0 where
    pub block : cursor.block ≤ length rows.blocks
    pub offset : cursor.offset ≤ length (block_at rows.blocks cursor)
