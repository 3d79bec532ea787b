-- The store of a member, as contracts see it: the state of what is to be on the disk, and the rows of its logs.
use Rattle.std.specs.Prelude.{◌≡◌, ◌⊎◌, ℕ, ◌+◌, ◌-◌, ◌^◌, ◌<◌, ◌≤◌, Bool, true, false, not, List, [], ◌∷◌, ◌++◌, Option, Some, None, IfSome, IsSomeAnd, is_some}
use Rattle.std.specs.List.{list_any}
use Rattle.am_gossip.specs.declared.frame.Frame.{Frame}
use Rattle.am_gossip.specs.declared.frame.Frame.TheVariants.{Delta}
use Rattle.am_gossip.specs.declared.frame.StateKey.{StateKey}
use Rattle.am_gossip.specs.declared.frame.StateKey.TheVariants.{Sil, Nfl}
use Rattle.am_peers.specs.Queues.{frames_for}
use Rattle.am_instance.specs.Sendings.{Sent}
use Rattle.am_instance.specs.InstanceStates.{InstanceState}
use Rattle.am_nflog.specs.Mesh.{mesh_version as entry_version}
use Rattle.am_silence.specs.Mesh.{mesh_version}
use Rattle.am_snapshot.specs.Encodings.{row_encoding}
use Rattle.am_store.specs.Appending.{Appends, Commits, IfKept, IsBegunAnew, LogRows, log_of}
use Rattle.am_store.specs.Calls.{Event}
use Rattle.am_store.specs.Rewrites.{path_of}
use Rattle.am_store.specs.Parting.{IsSavedAnew}
use Rattle.am_store.specs.Saves.{calls_of}
use Rattle.am_store.specs.declared.state.StateFile.{StateFile}
use Rattle.am_backend.specs.declared.commit_state.CommitState.{CommitState}
use Rattle.am_backend.specs.declared.system_backend.SystemBackend.{SystemBackend}
use Rattle.am_backend.specs.CommitStates.{behind, came, disk_of, keeps_logs, kept, uncommitted, with_lost, with_saved}

-- a file of a state: its path, and the calls so far on names in its directory
pub record SavedFile : Type 0 where
  pub path : List ℕ
  pub calls : List Event

-- the file of a state, as the code holds it
abbrev pub saved_file : StateFile → SavedFile
saved_file file = record { path = path_of file; calls = calls_of file }

-- the state of what is to be on the disk, and the rows of the logs and the files of the silences and of the notification log
pub record Store : Type 0 where
  pub commit_state : CommitState
  pub silences : Option LogRows
  pub log : Option LogRows
  pub silences_file : SavedFile
  pub log_file : SavedFile

module _ {R : Type 0} where
  -- the store that the code holds
  abbrev pub store_of : SystemBackend R → Store
  store_of backend = record {
    commit_state = backend.commit_state;
    silences = log_of backend.silences;
    log = log_of backend.log;
    silences_file = saved_file backend.silences;
    log_file = saved_file backend.log;
  }

-- ---- what a step sends to the place of the disk

-- the rows that are of this state, if they are of that one
abbrev pub rows_if : StateKey → StateKey → List ℕ → List ℕ
rows_if Sil Sil rows = rows
rows_if Nfl Nfl rows = rows
rows_if _ _ rows = []

-- the rows of a state that a frame brings
abbrev pub brought : StateKey → Frame → List ℕ
brought key (Delta part) = rows_if key part.key part.bytes
brought key _ = []

-- the rows of a state that frames bring, in order
abbrev pub rows_for : StateKey → List Frame → List ℕ
rows_for key [] = []
rows_for key (frame ∷ frames) = brought key frame ++ rows_for key frames

-- true if a frame brings versions
abbrev pub brings : Frame → Bool
brings (Delta part) = true
brings _ = false

-- Something came: the next commit is due, and it is counted.
pub record HasCome (old new : CommitState) : Type 0 where
  pub due : uncommitted new ≡ true
  pub counted : came old < 2 ^ 64 - 1 → came old < came new

-- Nothing is forgotten: whether a commit is due, whether the logs lack something, and how often something came.
pub record GoesOn (old new : CommitState) : Type 0 where
  pub disk : disk_of new ≡ disk_of old
  pub due : uncommitted old ≡ true → uncommitted new ≡ true
  pub lacks : behind old ≡ true → behind new ≡ true
  pub no_less : came old ≤ came new

-- These rows are in the logs, behind those that were there, or the logs are known to lack something.
abbrev pub AreLogged : List ℕ → List ℕ → Store → Store → Type 0
AreLogged silences log old new =
    (behind new.commit_state ≡ true) ⊎ (IfKept (Appends silences) old.silences new.silences × IfKept (Appends log) old.log new.log)

-- The versions that these frames bring are logged, if logs are kept; and if they bring any, something has come.
pub record IsLogged (frames : List Frame) (old new : Store) : Type 0 where
  pub rows : keeps_logs old.commit_state ≡ true → AreLogged (rows_for Sil frames) (rows_for Nfl frames) old new
  pub come : list_any brings frames ≡ true → HasCome old.commit_state new.commit_state
  pub goes_on : GoesOn old.commit_state new.commit_state

-- The versions that a step sends to the place of the disk are logged; if it left something out, the logs are known to lack it.
pub record IsFollowed (sent : Sent) (old new : Store) : Type 0 where
  pub logged : IfSome (disk_of old.commit_state) (λ disk. IsLogged (frames_for disk sent.frames) old new)
  pub unsent : keeps_logs old.commit_state ≡ true → 0 < sent.memory + sent.limit → behind new.commit_state ≡ true
  pub goes_on : GoesOn old.commit_state new.commit_state

-- A step sends something to the place of the disk, and it can still be counted.
abbrev pub SendsNews : Sent → Store → Type 0
SendsNews sent store = (came store.commit_state < 2 ^ 64 - 1) × IsSomeAnd (disk_of store.commit_state) (λ disk. list_any brings (frames_for disk sent.frames) ≡ true)

-- ---- what a commit makes sure of

-- the store once something came that is in no log, if that is so
abbrev pub lost_if : Bool → Store → Store
lost_if true store = record store { commit_state = with_lost store.commit_state }
lost_if false store = store

-- Both logs have all their rows on the disk, and lacked nothing.
pub record AreCommitted (old new : Store) : Type 0 where
  pub complete : behind old.commit_state ≡ false
  pub silences : IfKept Commits old.silences new.silences
  pub log : IfKept Commits old.log new.log

-- A log has all its rows on the disk, or the logs are known to lack something; the other log is as it was.
pub record HasCommitted (old new : CommitState) (committed other committed' other' : Option LogRows) : Type 0 where
  pub made : keeps_logs old ≡ true → (behind new ≡ true) ⊎ ((behind new ≡ behind old) × IfKept Commits committed committed')
  pub disk : disk_of new ≡ disk_of old
  pub other_stays : other' ≡ other

-- The last calls of a file put this row into it, and then began its log anew, if one is kept.
abbrev pub HoldsRow : List ℕ → Option LogRows → SavedFile → Type 0
HoldsRow row log file = (before : List Event) × IsSavedAnew (is_some log) file.path row before file.calls

-- Both states of an instance were saved, each in its own file, and their logs begun anew.
pub record AreSaved (stand : InstanceState) (new : Store) : Type 0 where
  pub complete : behind new.commit_state ≡ false
  pub silences : HoldsRow (row_encoding mesh_version stand.silences) new.silences new.silences_file
  pub log : HoldsRow (row_encoding entry_version stand.log) new.log new.log_file
  pub silences_anew : IsBegunAnew new.silences
  pub log_anew : IsBegunAnew new.log

-- Both states were saved if there is no fault, and otherwise what is known of the logs stays.
abbrev pub HasSaved : {F : Type 0} → InstanceState → Option F → Store → Store → Type 0
HasSaved stand None old new = AreSaved stand new × (new.commit_state ≡ with_saved old.commit_state)
HasSaved stand (Some fault) old new = new.commit_state ≡ old.commit_state

-- If the logs lack something, both states may have been saved, and otherwise nothing was done.
pub record MaySave (stand : InstanceState) (old new : Store) : Type 0 where
  pub idle : behind old.commit_state ≡ false → new ≡ old
  pub saved : behind old.commit_state ≡ true → AreSaved stand new ⊎ (behind new.commit_state ≡ true)
  pub due : uncommitted new.commit_state ≡ uncommitted old.commit_state

-- All is kept only if both logs have it on the disk or both states were saved; and no commit is due any more.
pub record IsKept (stand : InstanceState) (old new : Store) : Type 0 where
  pub made : keeps_logs old.commit_state ≡ true → kept new.commit_state ≡ true → AreCommitted old new ⊎ AreSaved stand new
  pub exact : kept new.commit_state ≡ not (behind new.commit_state)
  pub due : uncommitted new.commit_state ≡ false
