-- A log to which rows are appended, as contracts see it.
use Rattle.std.specs.Prelude.{◌≡◌, ℕ, Bool, false, is_some, List, [], ◌∷◌, ◌++◌, Option, Some, None, IfSome, ⊤}
use Rattle.am_store.specs.Blocks.{recovered}
use Rattle.am_store.specs.Journal.{device_of}
use Rattle.am_store.specs.declared.device.Device.{Ghosts}
use Rattle.am_store.specs.declared.journal.Journal.{Journal}
use Rattle.am_store.specs.declared.log.StateLog.{StateLog}
use Rattle.am_store.specs.declared.state.StateFile.{StateFile}

-- the rows of all batches, in order
abbrev pub rows_of : List (List ℕ) → List ℕ
rows_of [] = []
rows_of (batch ∷ batches) = batch ++ rows_of batches

module _ {D : Type 0} {g : Ghosts D} where
  -- the rows of all batches that a log has acknowledged
  abbrev pub acknowledged : Option (Journal D g) → List ℕ
  acknowledged None = []
  acknowledged (Some journal) = rows_of (recovered (g.seen (device_of journal)))

-- the rows of a log: those that it has acknowledged, which are on the disk, and those that wait for the next commit
pub record LogRows : Type 0 where
  pub on_disk : List ℕ
  pub waiting : List ℕ

-- the rows of a log, as the code holds it
abbrev pub rows_in : StateLog → LogRows
rows_in log = record { on_disk = acknowledged log.journal; waiting = log.batch.items }

-- true if what is added to the log will be on the disk
abbrev pub trusted : StateLog → Bool
trusted log = is_some log.journal

-- the rows of a log, if one is kept
abbrev pub rows_if_kept : Option StateLog → Option LogRows
rows_if_kept None = None
rows_if_kept (Some log) = Some (rows_in log)

-- the rows of the log beside a file, if one is kept
abbrev pub log_of : StateFile → Option LogRows
log_of file = rows_if_kept file.log

-- The log has these rows behind those that it had.
abbrev pub Appends : List ℕ → LogRows → LogRows → Type 0
Appends rows old new = new.on_disk ++ new.waiting ≡ old.on_disk ++ old.waiting ++ rows

-- All rows of the log are on the disk, in their order, and none waits.
pub record Commits (old new : LogRows) : Type 0 where
  pub on_disk : new.on_disk ≡ old.on_disk ++ old.waiting
  pub waiting : new.waiting ≡ []

-- The log went from one state to another by this relation, if one is kept.
abbrev pub IfKept : {A : Type 0} → (A → A → Type 0) → Option A → Option A → Type 0
IfKept relation None new = new ≡ None
IfKept relation (Some old) None = ⊥
IfKept relation (Some old) (Some new) = relation old new

-- The log was begun anew, if one is kept: no row waits.
abbrev pub IsBegunAnew : Option LogRows → Type 0
IsBegunAnew None = ⊤
IsBegunAnew (Some rows) = rows.waiting ≡ []

-- the log beside a file isn't trusted, if one is kept
abbrev pub IsNotTrusted : StateFile → Type 0
IsNotTrusted file = IfSome file.log (λ log. trusted log ≡ false)
