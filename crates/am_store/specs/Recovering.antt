-- The state that a start recovers from what it finds.
use Rattle.std.specs.Prelude.{ℕ, List, [], ◌++◌, Option, Some, None, Result}
use Rattle.am_version_order.specs.Versions.{Version}
use Rattle.am_wire.specs.declared.error.WireError.{WireError}
use Rattle.am_wire.specs.Inputs.{AreMessages}
use Rattle.am_store.specs.Blocks.{recovered}
use Rattle.am_merge.specs.Views.{HoldsBest}
use Rattle.am_store.specs.Logs.{AreInBatches}

-- the content of a file, if it is known; empty if the file is missing
abbrev pub content_of : {R : Type 0} → (R → Option (List ℕ)) → Option R → Option (List ℕ)
content_of remaining None = Some []
content_of remaining (Some reader) = remaining reader

-- A map has, for each key, the best version among those of a row.
pub record HoldsRow {K X : Type 0} (seen : X → Version K) (reads : ℕ → List ℕ → Result X WireError) (row : List ℕ) (map : List X) : Type 0 where
  pub versions : List X
  pub all : AreMessages reads row versions
  pub best : HoldsBest seen versions map

-- A map has, for each key, the best version among those of a file and of all whole batches of two logs.
pub record IsRecovered {K X : Type 0} (seen : X → Version K) (reads : ℕ → List ℕ → Result X WireError) (row first second : List ℕ) (map : List X) : Type 0 where
  pub in_row : List X
  pub in_first : List X
  pub in_second : List X
  pub all_of_row : AreMessages reads row in_row
  pub all_of_first : AreInBatches seen reads (recovered first) in_first
  pub all_of_second : AreInBatches seen reads (recovered second) in_second
  pub best : HoldsBest seen (in_row ++ in_first ++ in_second) map
