-- The versions that a start has after a crash, whatever the crash leaves.
-- X is the type of versions, `seen` is what the merge sees of one, and `reads` is the result of reading one.
use Rattle.std.specs.Prelude.{◌≡◌, ◌⊎◌, ℕ, false, List, [], All, Contains, Result, unwrap_or}
use Rattle.std.specs.declared.cmp.Ordering.{Ordering}
use Rattle.am_version_order.specs.Versions.{Version, is_below}
use Rattle.am_wire.specs.declared.error.WireError.{WireError}
use Rattle.am_wire.specs.declared.unknown.Unknown.{Unknown}
use Rattle.am_wire.specs.Inputs.{AreMessages}
use Rattle.am_wire.specs.Unknown.{StaysWhole}
use Rattle.am_merge.specs.Maps.{IsMap}
use Rattle.am_store.specs.Blocks.{recovered}
use Rattle.am_store.specs.Calls.{Event}
use Rattle.am_store.specs.Crashes.{Disk, Remains, MayLeave, MayLeaveDuring, bytes_at}
use Rattle.am_store.specs.Logs.{AreInBatches}
use Rattle.am_store.specs.Recovering.{IsRecovered}
use Rattle.am_store.specs.Rewrites.{old_log, own_log}

-- the bytes at a path after a crash, which are none if no file is there
abbrev pub content_at : Remains → List ℕ → List ℕ
content_at left path = unwrap_or (bytes_at left path) []

module _ {K X : Type 0} (seen : X → Version K) where
  -- the map has the version, or one of its key that is as great or greater
  pub record HasAtLeast (v : X) (map : List X) : Type 0 where
    pub version : X
    pub held : Contains map version
    pub same_key : (seen version).key ≡ (seen v).key
    pub not_below : is_below (seen version) (seen v) ≡ false

  -- the state is a map of values that lose nothing when they are read again
  pub record IsState (cmp : K → K → Ordering) (is_value : X → Type 0) (plain : X → X) (unknown : Unknown) (state : List X) : Type 0 where
    pub order : IsMap seen cmp state
    pub values : All is_value state
    pub whole : All (StaysWhole plain unknown) state

  module _ (reads : ℕ → List ℕ → Result X WireError) where
    -- the version is in a row
    abbrev pub InRow : List ℕ → X → Type 0
    InRow row v = (versions : List X) × AreMessages reads row versions × Contains versions v

    -- the version is in a batch
    abbrev pub InBatches : List (List ℕ) → X → Type 0
    InBatches batches v = (versions : List X) × AreInBatches seen reads batches versions × Contains versions v

    module _ (path : List ℕ) where
      -- the version is in the file that a crash left, or in a whole batch of the old log or of the log
      abbrev pub Stands : X → Remains → Type 0
      Stands v left =
          InRow (content_at left path) v
          ⊎ InBatches (recovered (content_at left (old_log path))) v
          ⊎ InBatches (recovered (content_at left (own_log path))) v

      -- a start has this map of the file and the two logs that a crash left
      abbrev pub StartsWith : Remains → List X → Type 0
      StartsWith left map =
          IsRecovered seen reads (content_at left path) (content_at left (old_log path)) (content_at left (own_log path)) map

      -- after a crash that left this, a start has the version, or a greater one of its key
      abbrev pub IsKept : X → Remains → Type 0
      IsKept v left = (map : List X) → StartsWith left map → HasAtLeast v map

      -- so it is, whatever a crash leaves of the disk
      abbrev pub Outlasts : X → Disk → Type 0
      Outlasts v disk = (left : Remains) → MayLeave disk left → IsKept v left

      -- so it is, whenever the crash comes while these calls are made, or right after
      abbrev pub OutlastsDuring : X → List Event → Disk → Type 0
      OutlastsDuring v calls disk = (left : Remains) → MayLeaveDuring calls disk left → IsKept v left

      -- the version was in the file that a crash might have left of the disk
      abbrev pub WasInFile : Disk → X → Type 0
      WasInFile disk v = (earlier : Remains) × MayLeave disk earlier × InRow (content_at earlier path) v

      -- the version is in the log that is left, or in one of these states, or in the file or the old log that a crash before might
      -- have left
      abbrev pub IsKnown : List (List X) → Disk → Remains → X → Type 0
      IsKnown states disk left v =
          InBatches (recovered (content_at left (own_log path))) v
          ⊎ ((state : List X) × Contains states state × Contains state v)
          ⊎ ((earlier : Remains) × MayLeave disk earlier × (InRow (content_at earlier path) v ⊎ InBatches (recovered (content_at earlier (old_log path))) v))
