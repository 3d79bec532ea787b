-- A log is parted from the one before it, or begun anew: the calls on names. What is written to a log's file is no part of them.
use Rattle.std.specs.Prelude.{◌≡◌, ◌⊎◌, Bool, true, false, is_some, List, [], ◌∷◌, ◌++◌, ℕ, Option, Some, None}
use Rattle.am_store.specs.Appending.{IsNotTrusted, log_of, trusted}
use Rattle.am_store.specs.Calls.{Event, Remove, Make, Permit, Rename, SyncDirectory, Miss}
use Rattle.am_store.specs.Rewrites.{old_log, own_log, path_of}
use Rattle.am_store.specs.Saves.{IsDirectoryOf, IsSaved, IsStopped, calls_of}
use Rattle.am_store.specs.declared.file_fault.FileFault.{FileFault}
use Rattle.am_store.specs.declared.log.StateLog.{StateLog}
use Rattle.am_store.specs.declared.state.StateFile.{StateFile}

-- ---- a new FILE.log
-- the calls by which it is made, with FILE's permissions, and stays
abbrev pub beginning : List ℕ → List ℕ → List Event
beginning path directory = (Make (own_log path), true) ∷ (Permit path, true) ∷ (SyncDirectory directory, true) ∷ []

-- the progress of a beginning that stopped: the file wasn't made; it didn't get permissions; no gate was written to it; or its name
-- isn't synced to the disk
pub data BeginningStop : Type 0 where
  Unmade : BeginningStop
  Unpermitted : BeginningStop
  Unwritten : BeginningStop
  Unsettled : BeginningStop

-- the calls up to that point
abbrev pub beginning_until : BeginningStop → List ℕ → List ℕ → List Event
beginning_until Unmade path directory = (Make (own_log path), false) ∷ []
beginning_until Unpermitted path directory = (Make (own_log path), true) ∷ (Permit path, false) ∷ []
beginning_until Unwritten path directory = (Make (own_log path), true) ∷ (Permit path, true) ∷ []
beginning_until Unsettled path directory = (Make (own_log path), true) ∷ (Permit path, true) ∷ (SyncDirectory directory, false) ∷ []

-- the log of a state is opened: a new one is begun, or the directory of one that stands is synced; or no log is kept. These are the
-- calls, after those before.
abbrev pub Opens : Bool → List ℕ → List Event → List Event → Type 0
Opens true path before after =
    (directory : List ℕ) × IsDirectoryOf path directory
    × ((after ≡ before ++ beginning path directory) ⊎ (after ≡ before ++ (SyncDirectory directory, true) ∷ []))
Opens false path before after = after ≡ before

-- ---- a parting: FILE.log becomes FILE.log.old, if none stands, and there is a new FILE.log
-- its calls
abbrev pub parting : List ℕ → List ℕ → List Event
parting path directory = (Miss (old_log path), true) ∷ (Rename (own_log path) (old_log path), true) ∷ beginning path directory

-- the progress of a parting that stopped: nothing was called; the system didn't say that no FILE.log.old stands; FILE.log wasn't
-- trusted; it kept its name; or no new one was begun
pub data PartingStop : Type 0 where
  Untried : PartingStop
  Unmissed : PartingStop
  Untrusted : PartingStop
  Unrenamed : PartingStop
  Unbegun : (stop : BeginningStop) → PartingStop

-- the calls up to that point
abbrev pub parting_until : PartingStop → List ℕ → List ℕ → List Event
parting_until Untried path directory = []
parting_until Unmissed path directory = (Miss (old_log path), false) ∷ []
parting_until Untrusted path directory = (Miss (old_log path), true) ∷ []
parting_until Unrenamed path directory = (Miss (old_log path), true) ∷ (Rename (own_log path) (old_log path), false) ∷ []
parting_until (Unbegun stop) path directory =
    (Miss (old_log path), true) ∷ (Rename (own_log path) (old_log path), true) ∷ beginning_until stop path directory

-- true if the log is trusted at that point: it was, and kept its name
abbrev pub trusted_at : PartingStop → Bool → Bool
trusted_at (Unbegun stop) was = false
trusted_at _ was = was

-- a parting is done: these are its calls, after those before
pub record IsParted (path : List ℕ) (before after : List Event) : Type 0 where
  pub directory : List ℕ
  pub standing : IsDirectoryOf path directory
  pub calls : after ≡ before ++ parting path directory

-- a parting stops: these are its calls, after those before
pub record StopsParting (path : List ℕ) (before after : List Event) : Type 0 where
  pub stop : PartingStop
  pub directory : List ℕ
  pub standing : IsDirectoryOf path directory
  pub calls : after ≡ before ++ parting_until stop path directory

-- these are the calls of a parting, whether it was done or not, or of finding that the old log stands, after those before
abbrev pub AreOfParting : List ℕ → List Event → List Event → Type 0
AreOfParting path before after = IsParted path before after ⊎ StopsParting path before after ⊎ (after ≡ before ++ (Miss (old_log path), false) ∷ [])

-- ---- a beginning anew: both logs are removed, and there is a new FILE.log, if one is kept
-- the calls by which both are removed, the older one for good; whether they stood makes no difference
abbrev pub removing : Bool → Bool → List ℕ → List ℕ → List Event
removing true own_stood path directory = (Remove (old_log path), true) ∷ (SyncDirectory directory, true) ∷ (Remove (own_log path), own_stood) ∷ []
removing false own_stood path directory = (Remove (old_log path), false) ∷ (Remove (own_log path), own_stood) ∷ []

-- the progress of a removal that stopped: FILE.log.old wasn't removed; or that isn't synced to the disk; or FILE.log wasn't removed
pub data RemovalStop : Type 0 where
  OldKept : RemovalStop
  OldUnsettled : RemovalStop
  OwnKept : (old_stood : Bool) → RemovalStop

-- the calls up to that point
abbrev pub removing_until : RemovalStop → List ℕ → List ℕ → List Event
removing_until OldKept path directory = (Remove (old_log path), false) ∷ []
removing_until OldUnsettled path directory = (Remove (old_log path), true) ∷ (SyncDirectory directory, false) ∷ []
removing_until (OwnKept old_stood) path directory = removing old_stood false path directory

-- the calls after that: a new log is begun, if one is kept, and otherwise the directory is synced
abbrev pub renewing : Bool → List ℕ → List ℕ → List Event
renewing true path directory = beginning path directory
renewing false path directory = (SyncDirectory directory, true) ∷ []

-- the progress of a beginning anew that stopped: nothing was called; a log wasn't removed; no new one was begun; or none is kept,
-- and the directory isn't synced to the disk
pub data AnewStop : Type 0 where
  NoneRemoved : AnewStop
  Unremoved : (stop : RemovalStop) → AnewStop
  NoneBegun : (old_stood own_stood : Bool) (stop : BeginningStop) → AnewStop
  Unsynced : (old_stood own_stood : Bool) → AnewStop

-- the calls up to that point
abbrev pub anew_until : AnewStop → List ℕ → List ℕ → List Event
anew_until NoneRemoved path directory = []
anew_until (Unremoved stop) path directory = removing_until stop path directory
anew_until (NoneBegun old_stood own_stood stop) path directory = removing old_stood own_stood path directory ++ beginning_until stop path directory
anew_until (Unsynced old_stood own_stood) path directory = removing old_stood own_stood path directory ++ (SyncDirectory directory, false) ∷ []

-- a log is begun anew, if one is kept: these are the calls, after those before
pub record IsAnew (kept : Bool) (path : List ℕ) (before after : List Event) : Type 0 where
  pub old_stood : Bool
  pub own_stood : Bool
  pub directory : List ℕ
  pub standing : IsDirectoryOf path directory
  pub calls : after ≡ before ++ removing old_stood own_stood path directory ++ renewing kept path directory

-- a beginning anew stops: these are its calls, after those before
pub record StopsAnew (path : List ℕ) (before after : List Event) : Type 0 where
  pub stop : AnewStop
  pub directory : List ℕ
  pub standing : IsDirectoryOf path directory
  pub calls : after ≡ before ++ anew_until stop path directory

-- the logs are begun anew, or none is kept, and none has to go
abbrev pub EndsLogs : Bool → List ℕ → List Event → List Event → Type 0
EndsLogs true path before after = IsAnew true path before after
EndsLogs false path before after = IsAnew false path before after ⊎ (after ≡ before)

-- a save is done, and then the logs are begun anew: these are the calls, after those before
pub record IsSavedAnew (kept : Bool) (path row : List ℕ) (before after : List Event) : Type 0 where
  pub between : List Event
  pub saved : IsSaved path row before between
  pub anew : EndsLogs kept path between after

-- a save is done, and then the logs aren't begun anew: these are the calls, after those before
pub record FailsAnew (path row : List ℕ) (before after : List Event) : Type 0 where
  pub between : List Event
  pub saved : IsSaved path row before between
  pub stops : StopsAnew path between after

-- ---- of the log beside a file, if one is kept
-- true if one is
abbrev pub keeps_log : StateFile → Bool
keeps_log file = is_some (log_of file)

-- a log is parted from the one before it, and is trusted
pub record Parts (path : List ℕ) (before after : List Event) (new : StateLog) : Type 0 where
  pub parted : IsParted path before after
  pub trust : trusted new ≡ true

-- a log isn't parted, and is trusted only if it was and kept its name
pub record FailsToPart (path : List ℕ) (before after : List Event) (old new : StateLog) : Type 0 where
  pub stops : StopsParting path before after
  pub trust : trusted new ≡ trusted_at stops.stop (trusted old)

-- a log is parted, or the old one still stands, and then nothing is renamed
abbrev pub MayPart : List ℕ → List Event → List Event → StateLog → StateLog → Type 0
MayPart path before after old new = Parts path before after new ⊎ (after ≡ before ++ (Miss (old_log path), false) ∷ [])

-- a log went from one state to another by this relation, by the calls between these, if one is kept, and otherwise nothing is called
abbrev pub IfLogKept : (List Event → List Event → StateLog → StateLog → Type 0) → List Event → List Event → Option StateLog → Option StateLog → Type 0
IfLogKept relation before after None new = (new ≡ None) × (after ≡ before)
IfLogKept relation before after (Some old) None = ⊥
IfLogKept relation before after (Some old) (Some new) = relation before after old new

-- so it is with the log beside a file
abbrev pub OfLog : (List Event → List Event → StateLog → StateLog → Type 0) → StateFile → StateFile → Type 0
OfLog relation old new = IfLogKept relation (calls_of old) (calls_of new) old.log new.log

-- a save stops, or it is done and the logs aren't begun anew, and then none is trusted
abbrev pub FailsToSave : Type 0 → List ℕ → StateFile → StateFile → FileFault → Type 0
FailsToSave fits row old new fault =
    IsStopped fits (path_of old) row (calls_of old) (calls_of new) fault
    ⊎ (FailsAnew (path_of old) row (calls_of old) (calls_of new) × IsNotTrusted new)
