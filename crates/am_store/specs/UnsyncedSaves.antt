-- Saves without one of their syncs, and a disk on which a crash then loses the new file.
use Rattle.std.specs.Prelude.{ℕ, ◌==◌, true, if◌then◌else◌, List, [], ◌∷◌, Some, None, codes, bytes_eq}
use Rattle.am_store.specs.Calls.{Event, Make, Sync, Rename, SyncDirectory}
use Rattle.am_store.specs.Saves.{beside}
use Rattle.am_store.specs.Crashes.{Disk, Exactly}

-- one file is in the directory `.`, with these bytes, and all is synced
abbrev pub one_file : List ℕ → List ℕ → Disk
one_file path bytes = record {
  directory = codes ".";
  names = λ name. if bytes_eq name path then Some 0 else None;
  earlier = [];
  known = λ file. if file == 0 then Some (Exactly bytes) else None;
  created = 0;
}

-- the new file isn't synced
abbrev pub without_the_file : List ℕ → List Event
without_the_file path = (Make (beside path), true) ∷ (Rename (beside path) path, true) ∷ (SyncDirectory (codes "."), true) ∷ []

-- the directory isn't synced
abbrev pub without_the_directory : List ℕ → List ℕ → List Event
without_the_directory path row = (Make (beside path), true) ∷ (Sync (Some row), true) ∷ (Rename (beside path) path, true) ∷ []
