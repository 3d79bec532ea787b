-- What was done, in order, with the names in the directory of a state's file.
-- X is the type of versions, and `seen` is what the merge sees of one.
use Rattle.std.specs.Prelude.{◌≡◌, ◌⊎◌, ℕ, Bool, List, [], ◌∷◌, Contains, Result}
use Rattle.std.specs.List.{All}
use Rattle.std.specs.declared.cmp.Ordering.{Ordering}
use Rattle.am_version_order.specs.Versions.{Version}
use Rattle.am_wire.specs.declared.error.WireError.{WireError}
use Rattle.am_snapshot.specs.Encodings.{row_encoding}
use Rattle.am_snapshot.specs.Saving.{FitsRow}
use Rattle.am_store.specs.Blocks.{recovered}
use Rattle.am_store.specs.Calls.{Event}
use Rattle.am_store.specs.Crashes.{Disk, Remains}
use Rattle.am_store.specs.Outlasting.{InBatches, WasInFile, content_at}
use Rattle.am_store.specs.Parting.{AreOfParting, FailsAnew, IsSavedAnew, Opens}
use Rattle.am_store.specs.Rewrites.{AreOfRewriting, old_log, own_log}
use Rattle.am_store.specs.Saves.{DropsNew, IsStopped}
use Rattle.am_store.specs.declared.file_fault.FileFault.{FileFault}

-- what is done with the files of a state
pub data Act (X : Type 0) : Type 0 where
  -- the log is opened, if one is kept
  Open : Act X
  -- a state is saved, and then the logs are begun anew, if nothing stops either
  Save : (state : List X) → Act X
  -- the log is parted from the one before it, if nothing stops that, and no old log stands
  Part : Act X
  -- the file is written anew, with pieces of these states, the newest first, as far as that has come, if nothing stops it
  Rewrite : (states : List (List X)) → Act X
  -- the new file of a rewriting that is given up is removed
  Drop : Act X

-- the states that an act saves, or writes pieces of
abbrev pub states_of : {X : Type 0} → Act X → List (List X)
states_of Open = []
states_of (Save state) = state ∷ []
states_of Part = []
states_of (Rewrite states) = states
states_of Drop = []

module _ {K X : Type 0} (seen : X → Version K) (cmp : K → K → Ordering) (path : List ℕ) (most : ℕ) where
  -- these are the calls of a save, whether it was done or not, after those before
  abbrev pub AreOfSave : List X → List Event → List Event → Type 0
  AreOfSave state before after =
      ((kept : Bool) × IsSavedAnew kept path (row_encoding seen state) before after)
      ⊎ ((fault : FileFault) × IsStopped (FitsRow seen most state) path (row_encoding seen state) before after fault)
      ⊎ FailsAnew path (row_encoding seen state) before after

  -- these are the calls of an act, after those before
  abbrev pub AreOf : Act X → List Event → List Event → Type 0
  AreOf Open before after = (kept : Bool) × Opens kept path before after
  AreOf (Save state) before after = AreOfSave state before after
  AreOf Part before after = AreOfParting path before after
  AreOf (Rewrite states) before after = AreOfRewriting seen cmp path most states before after
  AreOf Drop before after = DropsNew path before after

  -- these are the calls of these acts, the newest first, after those before: each act begins where the one before it ends
  abbrev pub AreOfAll : List (Act X) → List Event → List Event → Type 0
  AreOfAll [] before after = after ≡ before
  AreOfAll (act ∷ earlier) before after = (between : List Event) × AreOfAll earlier before between × AreOf act between after

module _ {K X : Type 0} (seen : X → Version K) (reads : ℕ → List ℕ → Result X WireError) (path : List ℕ) where
  -- the version is in a state that an act saves, or writes pieces of
  abbrev pub InStates : List (Act X) → X → Type 0
  InStates acts v = (act : Act X) × Contains acts act × (state : List X) × Contains (states_of act) state × Contains state v

  -- the version is in one of the logs that are left, or in a state of these acts, or in the file that a crash before them might have
  -- left
  abbrev pub IsKnownOf : List (Act X) → Disk → Remains → X → Type 0
  IsKnownOf acts disk left v =
      InBatches seen reads (recovered (content_at left (own_log path))) v
      ⊎ InBatches seen reads (recovered (content_at left (old_log path))) v
      ⊎ InStates acts v
      ⊎ WasInFile seen reads path disk v

-- this is so of each state that the acts save, or write pieces of
abbrev pub OfStates : {X : Type 0} → (List X → Type 0) → List (Act X) → Type 0
OfStates P acts = All (λ act. All P (states_of act)) acts
