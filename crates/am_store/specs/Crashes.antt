-- A directory and its files, the calls that change them, and what a crash leaves of them. Nothing else changes them meanwhile.
use Rattle.std.specs.Prelude.{◌≡◌, ◌≢◌, ◌⊎◌, ℕ, ◌==◌, true, false, if◌then◌else◌, List, [], ◌∷◌, ◌++◌, Option, Some, None, option_map, IfSome}
use Rattle.am_store.specs.Blocks.{recovered}
use Rattle.am_store.specs.Calls.{Call, Event, Remove, Make, Permit, Write, Sync, Rename, SyncDirectory, Miss}

-- what is known of the bytes of a file: that it is synced, and these are all of them; or that a log has at least these whole batches,
-- which it acknowledged, whatever is appended to it
pub data Known : Type 0 where
  Exactly : (bytes : List ℕ) → Known
  AtLeast : (batches : List (List ℕ)) → Known

-- a file with these bytes agrees with what is known
abbrev pub Agrees : Known → List ℕ → Type 0
Agrees (Exactly bytes) found = found ≡ bytes
Agrees (AtLeast batches) found = (more : List (List ℕ)) × (recovered found ≡ batches ++ more)

-- the names in a directory: which file is at a path, if any
abbrev pub Names : Type 0
Names = List ℕ → Option ℕ

-- a directory and its files
pub record Disk : Type 0 where
  -- the path of the directory
  pub directory : List ℕ
  -- its names now, and those before each change since it was synced
  pub names : Names
  pub earlier : List Names
  -- what is known of the bytes of a file; any other file may hold anything
  pub known : ℕ → Option Known
  -- the file that was created last
  pub created : ℕ

-- all that is there after a crash: names, and the bytes of each file
pub record Remains : Type 0 where
  pub names : Names
  pub bytes : ℕ → List ℕ

-- the bytes at a path, if there is a file
abbrev pub bytes_at : Remains → List ℕ → Option (List ℕ)
bytes_at left path = option_map left.bytes (left.names path)

-- these are the names of one of the moments
abbrev pub IsAmong : Names → List Names → Type 0
IsAmong names [] = ⊥
IsAmong names (moment ∷ others) = (names ≡ moment) ⊎ IsAmong names others

-- the names of each moment since the directory was synced
abbrev pub moments : Disk → List Names
moments disk = disk.names ∷ disk.earlier

-- a crash may leave the names of any moment since the directory was synced: the first of the changes since, and not the others;
-- a file of which something is known agrees with that, and any other may have any bytes
pub record MayLeave (disk : Disk) (left : Remains) : Type 0 where
  pub names : IsAmong left.names (moments disk)
  pub files : (file : ℕ) → IfSome (disk.known file) (λ known. Agrees known (left.bytes file))

-- whatever a crash leaves, these are the bytes at the path, or no file is there
abbrev pub Keeps : Disk → List ℕ → Option (List ℕ) → Type 0
Keeps disk path bytes = (left : Remains) → MayLeave disk left → bytes_at left path ≡ bytes

-- whatever a crash leaves, a file is at the path
abbrev pub Stays : Disk → List ℕ → Type 0
Stays disk path = (left : Remains) → MayLeave disk left → bytes_at left path ≢ None

-- ---- what a call does
-- other names are as they were
abbrev pub SameBut : List ℕ → Names → Names → Type 0
SameBut path old new = (other : List ℕ) → other ≢ path → new other ≡ old other

-- the directory's names are changed, and it isn't synced
abbrev pub with_names : Disk → Names → Disk
with_names disk names = record disk { names = names; earlier = moments disk }

-- the file that was created last is synced with these bytes, or isn't synced
abbrev pub with_bytes : Disk → Option (List ℕ) → Disk
with_bytes disk bytes = record disk { known = λ file. if file == disk.created then option_map Exactly bytes else disk.known file }

-- no path leads to the file, nor did since the directory was synced, and nothing is known of it
pub record IsNew (file : ℕ) (disk : Disk) : Type 0 where
  pub unknown : disk.known file ≡ None
  pub unnamed : (names : Names) → IsAmong names (moments disk) → (path : List ℕ) → names path ≢ Some file

-- a call does its work
abbrev pub Does : Call → Disk → Disk → Type 0
-- unlink: nothing is at the path
Does (Remove path) old new = (names : Names) × (names path ≡ None) × SameBut path old.names names × (new ≡ with_names old names)
-- open with O_CREAT and O_EXCL: nothing was at the path, and a new file is
Does (Make path) old new =
    (names : Names) × (file : ℕ) × IsNew file old × (names path ≡ Some file) × SameBut path old.names names
    × (new ≡ record (with_names old names) { created = file }) × (old.names path ≡ None)
Does (Permit path) old new = new ≡ old
-- write: the new file isn't synced any more
Does (Write bytes) old new = new ≡ with_bytes old None
-- fsync of the new file: a crash leaves these bytes
Does (Sync bytes) old new = new ≡ with_bytes old bytes
-- rename: at one path is what was at the other, of which nothing is said any more
Does (Rename from to) old new =
    (names : Names) × (names to ≡ old.names from) × ((other : List ℕ) → other ≢ from → other ≢ to → names other ≡ old.names other)
    × (new ≡ with_names old names)
-- fsync of the directory: a crash leaves its names; other directories make no difference
Does (SyncDirectory path) old new = ((path ≡ old.directory) × (new ≡ record old { earlier = [] })) ⊎ ((path ≢ old.directory) × (new ≡ old))
-- stat: nothing is at the path
Does (Miss path) old new = (old.names path ≡ None) × (new ≡ old)

-- a call that fails, or that a crash interrupts, does its work or nothing; of a sync, or of a question, nothing can be relied on
abbrev pub MayDo : Call → Disk → Disk → Type 0
MayDo (Sync bytes) old new = new ≡ old
MayDo (SyncDirectory path) old new = new ≡ old
MayDo (Miss path) old new = new ≡ old
MayDo call old new = (new ≡ old) ⊎ Does call old new

-- the change by a call and its answer
abbrev pub Changes : Event → Disk → Disk → Type 0
Changes (call, true) = Does call
Changes (call, false) = MayDo call

-- calls are made, one after the other
abbrev pub Runs : List Event → Disk → Disk → Type 0
Runs [] old new = new ≡ old
Runs (event ∷ events) old new = (next : Disk) × Changes event old next × Runs events next new

-- a crash while these calls are made, or right after, may leave this: it comes during the first one, or later. Writes to the new
-- file need no place among the calls, since it may hold anything before it is synced.
abbrev pub MayLeaveDuring : List Event → Disk → Remains → Type 0
MayLeaveDuring [] disk left = MayLeave disk left
MayLeaveDuring ((call, done) ∷ events) disk left =
    ((next : Disk) × MayDo call disk next × MayLeave next left)
    ⊎ ((next : Disk) × Changes (call, done) disk next × MayLeaveDuring events next left)
