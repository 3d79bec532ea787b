-- A file that is written anew in stretches, while its state changes: the calls, and what the new file holds.
use Rattle.std.specs.Prelude.{◌≡◌, ◌⊎◌, ℕ, ◌<◌, ◌≤◌, Bool, true, false, List, [], ◌∷◌, ◌++◌, length, Option, Some, None, Result, IfOk, IfErr, string_bytes, codes, ⊤}
use Rattle.std.specs.Path.{path_buf_bytes}
use Rattle.std.specs.declared.cmp.Ordering.{Ordering}
use Rattle.std.specs.declared.fs.File.{File}
use Rattle.am_version_order.specs.Versions.{Version}
use Rattle.am_merge.specs.Maps.{from_key}
use Rattle.am_snapshot.specs.Pieces.{IsPiece}
use Rattle.am_snapshot.specs.declared.pieces.RowPiece.{RowPiece}
use Rattle.am_snapshot.specs.declared.error.SnapshotError.TheVariants as snapshot
use Rattle.am_store.specs.declared.compaction.Compaction.{Compaction}
use Rattle.am_store.specs.declared.state.StateFile.{StateFile}
use Rattle.am_store.specs.declared.stages.CompactionStage.{CompactionStage}
use Rattle.am_store.specs.declared.stages.CompactionStage.TheVariants.{GiveBack, Make, Write, HandOver, Rename, Settle, EndLog, SettleEnd, Done}
use Rattle.am_store.specs.declared.system.SystemFile.{SystemFile}
use Rattle.am_store.specs.declared.file_fault.FileFault.{FileFault}
use Rattle.am_store.specs.declared.file_fault.FileFault.TheVariants.{Snapshot}
use Rattle.am_store.specs.Calls.{Event, written_in}
use Rattle.am_store.specs.Calls as call
use Rattle.am_store.specs.Saves.{IsDirectoryOf, IsOfSystem, Permissions, Row, Stop, Unnamed, Unmade, Unreplaced, Unsettled, beside, replacing, saving, saving_until}

-- the path of a state's file
abbrev pub path_of : StateFile → List ℕ
path_of file = path_buf_bytes file.path

-- the path FILE.log.old
abbrev pub old_log : List ℕ → List ℕ
old_log path = path ++ codes ".log.old"

-- the path FILE.log
abbrev pub own_log : List ℕ → List ℕ
own_log path = path ++ codes ".log"

-- ---- what the new file holds
-- the most bytes in a piece, unless one version alone has more
abbrev pub stretch : ℕ
stretch = 262144

-- the place at which the next piece begins: at the first version of a map, at a key, or nowhere
pub data Place (K : Type 0) : Type 0 where
  First : Place K
  At : (key : K) → Place K
  End : Place K

-- the place at which a piece begins that is to have the versions from a key on, or all
abbrev pub place_from : {K : Type 0} → Option K → Place K
place_from None = First
place_from (Some key) = At key

-- the place at which the piece behind one begins
abbrev pub place_behind : {K : Type 0} → Option K → Place K
place_behind None = End
place_behind (Some key) = At key

module _ {K X : Type 0} (seen : X → Version K) (cmp : K → K → Ordering) where
  -- the versions of a map from a place on
  abbrev pub left_at : List X → Place K → List X
  left_at map First = map
  left_at map (At key) = from_key seen cmp map key
  left_at map End = []

  -- The row is made of one piece of each of these maps, the newest first. Each piece begins where the one before ends, and the next
  -- one begins at this place.
  abbrev pub IsWritten : List (List X) → List ℕ → Place K → Type 0
  IsWritten [] row place = (row ≡ []) × (place ≡ First)
  IsWritten (map ∷ earlier) row place =
      (before : List ℕ) × (from : Place K) × (piece : RowPiece K) × IsWritten earlier before from
      × IsPiece seen stretch (left_at map from) piece × (row ≡ before ++ piece.row) × (place ≡ place_behind piece.next)

-- ---- the calls
-- the calls by which the new file is made; whether something was at FILE.new makes no difference
abbrev pub making : Bool → List ℕ → List Event
making stood path = (call.Remove (beside path), stood) ∷ (call.Make (beside path), true) ∷ (call.Permit path, true) ∷ []

-- the calls of a whole rewriting: those of a save, and then the old log is removed for good; whether it stood makes no difference
abbrev pub rewriting : Bool → Bool → List ℕ → List ℕ → List ℕ → List Event
rewriting stood ended path directory row =
    saving stood path directory row ++ (call.Remove (old_log path), ended) ∷ (call.SyncDirectory directory, true) ∷ []

-- the calls that were made when a stage is next
abbrev pub calls_before : {K F : Type 0} → CompactionStage K F → Bool → Bool → List ℕ → List ℕ → List ℕ → List Event
calls_before GiveBack stood ended path directory row = []
calls_before Make stood ended path directory row = []
calls_before (Write new from) stood ended path directory row = making stood path
calls_before (HandOver new) stood ended path directory row = making stood path
calls_before (Rename new) stood ended path directory row = making stood path ++ (call.Sync (Some row), true) ∷ []
calls_before (Settle replaced) stood ended path directory row =
    (call.Remove (beside path), stood) ∷ (call.Make (beside path), true) ∷ replacing path row
calls_before EndLog stood ended path directory row = saving stood path directory row
calls_before (SettleEnd log) stood ended path directory row = saving stood path directory row ++ (call.Remove (old_log path), ended) ∷ []
calls_before Done stood ended path directory row = rewriting stood ended path directory row

-- the place at which the next piece begins when a stage is next
abbrev pub place_of : {K F : Type 0} → CompactionStage K F → Place K
place_of GiveBack = First
place_of Make = First
place_of (Write new from) = place_from from
place_of _ = End

-- A stage has this in hand: the new file with this row, or the row's length, or the directory
abbrev pub Has : {K F : Type 0} → (F → Option (List ℕ)) → CompactionStage K F → List ℕ → List ℕ → List ℕ → Type 0
Has contents (Write new from) path directory row =
    (string_bytes new.name ≡ beside path) × (contents new.file ≡ Some row) × (new.written ≡ length row)
Has contents (HandOver new) path directory row =
    (string_bytes new.name ≡ beside path) × (contents new.file ≡ Some row) × (new.written ≡ length row)
Has contents (Rename new) path directory row = (string_bytes new.name ≡ beside path) × (new.written ≡ length row)
Has contents EndLog path directory row = IsDirectoryOf path directory
Has contents (SettleEnd log) path directory row = IsDirectoryOf path directory
Has contents Done path directory row = IsDirectoryOf path directory
Has contents _ path directory row = ⊤

-- these stages may follow one another
abbrev pub Follows : {K F : Type 0} → CompactionStage K F → CompactionStage K F → Type 0
Follows GiveBack GiveBack = ⊤
Follows GiveBack Make = ⊤
Follows Make (Write new None) = ⊤
Follows (Write new from) (Write other (Some key)) = ⊤
Follows (Write new from) (HandOver other) = ⊤
Follows (HandOver new) (Rename other) = ⊤
Follows (Rename new) (Settle replaced) = ⊤
Follows (Settle replaced) EndLog = ⊤
Follows EndLog (SettleEnd log) = ⊤
Follows (SettleEnd log) Done = ⊤
Follows Done Done = ⊤
Follows _ _ = ⊥

-- true if something is left to do when a stage is next
abbrev pub is_left_at : {K F : Type 0} → CompactionStage K F → Bool
is_left_at Done = false
is_left_at _ = true

-- the maps whose pieces are written, once a stage is done: one more if it writes a piece
abbrev pub with_piece : {K F X : Type 0} → CompactionStage K F → List X → List (List X) → List (List X)
with_piece (Write new from) map maps = map ∷ maps
with_piece _ map maps = maps

-- the progress of a rewriting that stopped: FILE wasn't saved; there was no memory for the name FILE.log.old; the old log wasn't
-- removed; or it was, and that isn't synced to the disk
pub data RewritingStop : Type 0 where
  Unsaved : (stop : Stop) → RewritingStop
  LogUnnamed : RewritingStop
  LogKept : RewritingStop
  LogUnsettled : RewritingStop

-- the calls up to that point
abbrev pub rewriting_until : RewritingStop → Bool → Bool → Bool → List ℕ → List ℕ → List ℕ → List Event
rewriting_until (Unsaved stop) stood removed ended path directory row = saving_until stop stood removed path row
rewriting_until LogUnnamed stood removed ended path directory row = saving stood path directory row
rewriting_until LogKept stood removed ended path directory row = saving stood path directory row ++ (call.Remove (old_log path), false) ∷ []
rewriting_until LogUnsettled stood removed ended path directory row =
    saving stood path directory row ++ (call.Remove (old_log path), ended) ∷ (call.SyncDirectory directory, false) ∷ []

-- the row is whole, unless the new file wasn't made, or not all of the row written
abbrev pub HasWhole : {K : Type 0} → RewritingStop → Place K → Type 0
HasWhole (Unsaved Unnamed) place = ⊤
HasWhole (Unsaved Unmade) place = ⊤
HasWhole (Unsaved (Unreplaced Permissions)) place = ⊤
HasWhole (Unsaved (Unreplaced Row)) place = ⊤
HasWhole _ place = place ≡ End

module _ {K X : Type 0} (seen : X → Version K) (cmp : K → K → Ordering) (path : List ℕ) (most : ℕ) where
  -- a rewriting with pieces of these maps is done: these are its calls, after those before
  pub record IsRewritten (maps : List (List X)) (before after : List Event) : Type 0 where
    pub row : List ℕ
    pub stood : Bool
    pub ended : Bool
    pub directory : List ℕ
    pub standing : IsDirectoryOf path directory
    pub calls : after ≡ before ++ rewriting stood ended path directory row
    pub written : IsWritten seen cmp maps row End
    pub fits : length row ≤ most

  -- the fault is that of the refused call, or of the row, which would have been too long with a piece of this map, or lack of memory
  abbrev pub IsCause : RewritingStop → List X → List (List X) → List ℕ → FileFault → Type 0
  IsCause (Unsaved Unnamed) map maps directory fault = fault ≡ Snapshot snapshot.Memory
  IsCause (Unsaved (Unreplaced Row)) map maps directory fault =
      IsOfSystem fault
      ⊎ ((fault ≡ Snapshot snapshot.TooLarge) × (all : List ℕ) × (place : Place K) × IsWritten seen cmp (map ∷ maps) all place × (most < length all))
  IsCause (Unsaved (Unsettled other)) map maps directory fault = IsDirectoryOf path other × IsOfSystem fault
  IsCause (Unsaved _) map maps directory fault = IsOfSystem fault
  IsCause LogUnnamed map maps directory fault = IsDirectoryOf path directory × (fault ≡ Snapshot snapshot.Memory)
  IsCause _ map maps directory fault = IsDirectoryOf path directory × IsOfSystem fault

  -- a rewriting with pieces of these maps stopped when the state was this map: these are its calls, after those before, and this is
  -- why
  pub record StopsRewriting (map : List X) (maps : List (List X)) (before after : List Event) (fault : FileFault) : Type 0 where
    pub stop : RewritingStop
    pub row : List ℕ
    pub place : Place K
    -- true if something was at FILE.new, if the file that was created there was removed, and if the old log was
    pub stood : Bool
    pub removed : Bool
    pub ended : Bool
    pub directory : List ℕ
    pub calls : after ≡ before ++ rewriting_until stop stood removed ended path directory row
    pub written : IsWritten seen cmp maps row place
    pub whole : HasWhole stop place
    pub fits : length row ≤ most
    pub cause : IsCause stop map maps directory fault

  module _ {F : Type 0} (contents : F → Option (List ℕ)) where
    -- a rewriting with pieces of these maps has come to a stage: these are its calls, after those before
    pub record HasCome (maps : List (List X)) (stage : CompactionStage K F) (before after : List Event) : Type 0 where
      pub row : List ℕ
      pub stood : Bool
      pub ended : Bool
      pub directory : List ℕ
      pub calls : after ≡ before ++ calls_before stage stood ended path directory row
      pub written : IsWritten seen cmp maps row (place_of stage)
      pub fits : length row ≤ most
      pub has : Has contents stage path directory row

    -- A stage is done while the state is this map: if a rewriting had come to it by the old calls, it has come to the next stage by
    -- the new ones, with a piece more if it is one that writes, or else it stopped, whatever calls there were before it began.
    pub record Advances (map : List X) (stage : CompactionStage K F) (old : List Event) (result : Result (CompactionStage K F) FileFault) (new : List Event) : Type 0 where
      pub next : IfOk result (Follows stage)
      pub come : (maps : List (List X)) (before : List Event) → HasCome maps stage before old → IfOk result (λ then. HasCome (with_piece stage map maps) then before new)
      pub stopped : (maps : List (List X)) (before : List Event) → HasCome maps stage before old → IfErr result (StopsRewriting map maps before new)

-- ---- a compaction, as contracts see it
-- its next stage
abbrev pub stage_of : {K : Type 0} → Compaction K → CompactionStage K (SystemFile File)
stage_of compaction = compaction.stage

-- the bytes written to a new file
abbrev pub new_bytes : SystemFile File → Option (List ℕ)
new_bytes file = Some (written_in file.log.events)

-- a rewriting with pieces of these maps has come to a stage, in a file of this machine: these are its calls, after those before
abbrev pub IsUnderWay : {K X : Type 0} → (X → Version K) → (K → K → Ordering) → List ℕ → ℕ → List (List X) → CompactionStage K (SystemFile File) → List Event → List Event → Type 0
IsUnderWay seen cmp path most maps stage before after = HasCome seen cmp path most new_bytes maps stage before after

-- these are the calls of a rewriting with pieces of these states, which is done, or stopped, or is under way, after those before
abbrev pub AreOfRewriting : {K X : Type 0} → (X → Version K) → (K → K → Ordering) → List ℕ → ℕ → List (List X) → List Event → List Event → Type 0
AreOfRewriting {K} {X} seen cmp path most states before after =
    IsRewritten seen cmp path most states before after
    ⊎ ((state : List X) × (fault : FileFault) × StopsRewriting seen cmp path most state states before after fault)
    ⊎ ((stage : CompactionStage K (SystemFile File)) × IsUnderWay seen cmp path most states stage before after)
