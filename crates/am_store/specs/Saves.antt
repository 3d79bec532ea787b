-- A save: a new file is written beside the existing one, and takes its place.
use Rattle.std.specs.Prelude.{◌≡◌, ◌≢◌, ◌⊎◌, ◌<◌, ℕ, ◌==◌, Bool, true, false, List, [], ◌∷◌, ◌++◌, length, get_or, Some, if◌then◌else◌, codes, ⊤}
use Rattle.std.specs.declared.io.ErrorKind.{ErrorKind}
use Rattle.am_snapshot.specs.declared.error.SnapshotError.{SnapshotError}
use Rattle.am_snapshot.specs.declared.error.SnapshotError.TheVariants as snapshot
use Rattle.am_store.specs.declared.state.StateFile.{StateFile}
use Rattle.am_store.specs.declared.file_fault.FileFault.{FileFault}
use Rattle.am_store.specs.declared.file_fault.FileFault.TheVariants.{Snapshot}
use Rattle.am_store.specs.Faults.{file_fault_of}
use Rattle.am_store.specs.Calls.{Event, Remove, Make, Permit, Sync, Rename, SyncDirectory}

-- the calls so far on names in the directory of a state's file, in order
abbrev pub calls_of : StateFile → List Event
calls_of file = file.calls.events

-- no byte is a slash
abbrev pub HasNoSlash : List ℕ → Type 0
HasNoSlash bytes = (k : ℕ) → k < length bytes → get_or bytes k 0 ≢ 47

-- the path is cut at its last slash
pub record IsCut (path before name : List ℕ) : Type 0 where
  pub parts : path ≡ before ++ 47 ∷ name
  pub last : HasNoSlash name

-- the directory is the part before the last slash, `/` if that part is empty, and `.` if there is no slash
abbrev pub IsDirectoryOf : List ℕ → List ℕ → Type 0
IsDirectoryOf path directory =
    (HasNoSlash path × (directory ≡ codes "."))
    ⊎ ((before : List ℕ) × (name : List ℕ) × IsCut path before name × (directory ≡ if length before == 0 then codes "/" else before))

-- the path FILE.new
abbrev pub beside : List ℕ → List ℕ
beside path = path ++ codes ".new"

-- the calls by which a new file gets permissions and the whole row, is synced to the disk, and takes the place of FILE
abbrev pub replacing : List ℕ → List ℕ → List Event
replacing path row = (Permit path, true) ∷ (Sync (Some row), true) ∷ (Rename (beside path) path, true) ∷ []

-- the calls of a whole save; whether something was at FILE.new makes no difference
abbrev pub saving : Bool → List ℕ → List ℕ → List ℕ → List Event
saving stood path directory row =
    (Remove (beside path), stood) ∷ (Make (beside path), true) ∷ replacing path row ++ (SyncDirectory directory, true) ∷ []

-- a save is done: these are its calls, after those before
pub record IsSaved (path row : List ℕ) (before after : List Event) : Type 0 where
  pub stood : Bool
  pub directory : List ℕ
  pub standing : IsDirectoryOf path directory
  pub calls : after ≡ before ++ saving stood path directory row

-- the reason why a new file doesn't take the place of FILE: it doesn't get permissions, or not the whole row, or it isn't on the
-- disk, or it isn't renamed
pub data Lack : Type 0 where
  Permissions : Lack
  Row : Lack
  Safety : Lack
  Name : Lack

-- the calls up to that point
abbrev pub replacing_until : Lack → List ℕ → List ℕ → List Event
replacing_until Permissions path row = (Permit path, false) ∷ []
replacing_until Row path row = (Permit path, true) ∷ []
replacing_until Safety path row = (Permit path, true) ∷ (Sync (Some row), false) ∷ []
replacing_until Name path row = (Permit path, true) ∷ (Sync (Some row), true) ∷ (Rename (beside path) path, false) ∷ []

-- the system refused a call
abbrev pub IsOfSystem : FileFault → Type 0
IsOfSystem fault = (kind : ErrorKind) × (fault ≡ file_fault_of kind)

-- the row may not be written, or not all of it was, or memory ran out
abbrev pub IsOfRow : Type 0 → List ℕ → SnapshotError → Type 0
IsOfRow fits row (snapshot.Write written) = written < length row
IsOfRow fits row snapshot.TooLarge = ¬ fits
IsOfRow fits row snapshot.Memory = ⊤
IsOfRow fits row _ = ⊥

-- the fault is that of the refused call, or of the row
abbrev pub IsLackOf : Type 0 → List ℕ → Lack → FileFault → Type 0
IsLackOf fits row Row fault = (error : SnapshotError) × (fault ≡ Snapshot error) × IsOfRow fits row error
IsLackOf fits row _ fault = IsOfSystem fault

-- a new file doesn't take the place of FILE
pub record IsLeft (fits : Type 0) (path row : List ℕ) (before after : List Event) (fault : FileFault) : Type 0 where
  pub lack : Lack
  pub calls : after ≡ before ++ replacing_until lack path row
  pub cause : IsLackOf fits row lack fault

-- the progress of a save that stopped: there was no memory for the name FILE.new; no file was created there; it didn't take the
-- place of FILE; or it did, and that isn't synced to the disk
pub data Stop : Type 0 where
  Unnamed : Stop
  Unmade : Stop
  Unreplaced : (lack : Lack) → Stop
  Unsettled : (directory : List ℕ) → Stop

-- the calls up to that point: the file that was created is removed again unless it took the place of FILE, and nothing else is
abbrev pub saving_until : Stop → Bool → Bool → List ℕ → List ℕ → List Event
saving_until Unnamed stood removed path row = []
saving_until Unmade stood removed path row = (Remove (beside path), stood) ∷ (Make (beside path), false) ∷ []
saving_until (Unreplaced lack) stood removed path row =
    (Remove (beside path), stood) ∷ (Make (beside path), true) ∷ replacing_until lack path row ++ (Remove (beside path), removed) ∷ []
saving_until (Unsettled directory) stood removed path row =
    (Remove (beside path), stood) ∷ (Make (beside path), true) ∷ replacing path row ++ (SyncDirectory directory, false) ∷ []

-- the fault is that of the refused call, or of the row, or lack of memory
abbrev pub IsStopOf : Type 0 → List ℕ → List ℕ → Stop → FileFault → Type 0
IsStopOf fits path row Unnamed fault = fault ≡ Snapshot snapshot.Memory
IsStopOf fits path row Unmade fault = IsOfSystem fault
IsStopOf fits path row (Unreplaced lack) fault = IsLackOf fits row lack fault
IsStopOf fits path row (Unsettled directory) fault = IsDirectoryOf path directory × IsOfSystem fault

-- a save stops: these are its calls, after those before, and this is why
pub record IsStopped (fits : Type 0) (path row : List ℕ) (before after : List Event) (fault : FileFault) : Type 0 where
  pub stop : Stop
  -- true if something was at FILE.new, and true if the file that was created there was removed
  pub stood : Bool
  pub removed : Bool
  pub calls : after ≡ before ++ saving_until stop stood removed path row
  pub cause : IsStopOf fits path row stop fault

-- the new file is removed, unless there is no memory for its name: these are the calls, after those before
abbrev pub DropsNew : List ℕ → List Event → List Event → Type 0
DropsNew path before after = (after ≡ before) ⊎ ((removed : Bool) × (after ≡ before ++ (Remove (beside path), removed) ∷ []))
