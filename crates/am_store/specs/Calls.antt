-- The calls on the names and files of a directory. Paths and what is written are bytes.
use Rattle.std.specs.Prelude.{ℕ, zero, suc, ◌==◌, Bool, List, [], Option, Some, slice_index}
use Rattle.std.specs.List.{flat_map}

pub data Call : Type 0 where
  -- the file at a path is removed
  Remove : (path : List ℕ) → Call
  -- a new file is created at a path where there is nothing
  Make : (path : List ℕ) → Call
  -- the new file gets the permissions of what is at a path, if anything is
  Permit : (path : List ℕ) → Call
  -- bytes are written to the new file
  Write : (bytes : List ℕ) → Call
  -- the new file, to which all these bytes were written, is synced to the disk
  Sync : (bytes : Option (List ℕ)) → Call
  -- the file at one path takes the place of the one at another
  Rename : (from to : List ℕ) → Call
  -- the names in a directory are synced to the disk
  SyncDirectory : (path : List ℕ) → Call
  -- the system is asked what is at a path; this is done if it says that nothing is
  Miss : (path : List ℕ) → Call

-- a call, and whether it was done
abbrev pub Event : Type 0
Event = Call × Bool

-- the bytes of a call, if it writes
abbrev pub bytes_of : Event → List ℕ
bytes_of (Write bytes, _) = bytes
bytes_of _ = []

-- the bytes written to a file
abbrev pub written_in : List Event → List ℕ
written_in events = flat_map bytes_of events

-- the call with a number, texts, and what was written to a new file
abbrev pub call_of : ℕ → List ℕ → List ℕ → List ℕ → Call
call_of zero first second written = Remove first
call_of (suc zero) first second written = Make first
call_of (suc (suc zero)) first second written = Permit first
call_of (suc (suc (suc zero))) first second written = Write first
call_of (suc (suc (suc (suc zero)))) first second written = Sync (Some written)
call_of (suc (suc (suc (suc (suc zero))))) first second written = Rename first second
call_of (suc (suc (suc (suc (suc (suc zero)))))) first second written = SyncDirectory first
call_of (suc (suc (suc (suc (suc (suc (suc _))))))) first second written = Miss first

-- a call with a number is done if the next one is 1
abbrev pub event_of : List ℕ → List ℕ → List ℕ → List Event → Event
event_of numbers first second file = (call_of (slice_index numbers 0) first second (written_in file), slice_index numbers 1 == 1)
