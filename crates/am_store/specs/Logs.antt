-- The contents of logs, and the maps that they lead to.
-- X is the type of versions, `seen` is what the merge sees of one, and `reads` is the result of reading one.
use Rattle.std.specs.Prelude.{◌≡◌, ℕ, List, [], ◌∷◌, ◌++◌, Result}
use Rattle.am_version_order.specs.Versions.{Version}
use Rattle.am_wire.specs.declared.error.WireError.{WireError}
use Rattle.am_wire.specs.Inputs.{AreMessages}
use Rattle.am_store.specs.Blocks.{recovered}
use Rattle.am_merge.specs.Views.{HoldsBest}

module _ {K X : Type 0} (seen : X → Version K) (reads : ℕ → List ℕ → Result X WireError) where
  -- the versions of all batches, in order, each batch being a row of some
  abbrev pub AreInBatches : List (List ℕ) → List X → Type 0
  AreInBatches [] versions = versions ≡ []
  AreInBatches (batch ∷ batches) versions =
      (first : List X) × (others : List X) × AreMessages reads batch first × AreInBatches batches others × (versions ≡ first ++ others)

  -- A map has, for each key, the best version among those of another map and of a row.
  pub record ReadsOn (before : List X) (row : List ℕ) (after : List X) : Type 0 where
    pub versions : List X
    pub all : AreMessages reads row versions
    pub best : HoldsBest seen (before ++ versions) after

  -- A map has, for each key, the best version among those of another map and of all whole batches of a log.
  pub record JoinsLog (map : List X) (log : List ℕ) (joined : List X) : Type 0 where
    pub versions : List X
    pub all : AreInBatches (recovered log) versions
    pub best : HoldsBest seen (map ++ versions) joined
