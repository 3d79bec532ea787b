-- The conditions and the results of a search. `order` gives the position of an item: `Less` is before what is searched for,
-- `Greater` behind it.
use Rattle.std.specs.Prelude.{◌≡◌, ◌⊎◌, List, take, drop}
use Rattle.std.specs.List.{All, AllPairs, HoldsAt}
use Rattle.std.specs.declared.cmp.Ordering.{Ordering}
use Rattle.std.specs.declared.cmp.Ordering.TheVariants.{Less, Equal, Greater}
use Rattle.am_merge.specs.declared.blocks.cursor.Cursor.{Cursor}
use Rattle.am_merge.specs.Rows.{Rows, entries}
use Rattle.am_merge.specs.Cursors.{IsItem, IsWithin, place}

module _ {T : Type 0} (order : T → Ordering) where
  -- of any two items, the first is before what is searched for, or the second is behind it
  abbrev pub IsRising : List T → Type 0
  IsRising items = AllPairs (λ x y. (order x ≡ Less) ⊎ (order y ≡ Greater)) items

  -- the item at the cursor is the one that is searched for
  pub record IsFound (rows : Rows T) (cursor : Cursor) : Type 0 where
    pub item : IsItem rows cursor
    pub equal : HoldsAt (λ x. order x ≡ Equal) (entries rows) (place rows cursor)

  -- no item is the one that is searched for: those before the cursor are before it, and the others are behind it
  pub record IsMissing (rows : Rows T) (cursor : Cursor) : Type 0 where
    pub within : IsWithin rows cursor
    pub before : All (λ x. order x ≡ Less) (take (place rows cursor) (entries rows))
    pub behind : All (λ x. order x ≡ Greater) (drop (place rows cursor) (entries rows))
