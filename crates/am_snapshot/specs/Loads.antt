-- The result of loading a snapshot.
use Rattle.std.specs.Prelude.{◌≡◌, ◌≢◌, ℕ, ◌≤◌, List, [], ◌∷◌, ◌++◌, length, map, Contains, AllPairs}
use Rattle.std.specs.Prelude.{IsPermutation, Option, Some, Result, Ok, ⊤}
use Rattle.std.specs.Io.KnownBytes.{Consumes}
use Rattle.am_version_order.specs.Versions.{Version}
use Rattle.am_wire.specs.declared.error.WireError.{WireError}
use Rattle.am_wire.specs.declared.reader.RowFault.{RowFault}
use Rattle.am_wire.specs.declared.reader.RowFault.TheVariants as reading
use Rattle.am_wire.specs.Limits.{most}
use Rattle.am_wire.specs.Inputs.{sound, messages_of, AreMessages, StopsWithin}
use Rattle.am_snapshot.specs.declared.error.SnapshotError.{SnapshotError}
use Rattle.am_snapshot.specs.declared.error.SnapshotError.TheVariants.{Read, Write, Wire, DuplicateKey, TooLarge, Memory}

-- the fault of reading rows, as a fault of a snapshot
abbrev pub load_fault : RowFault → SnapshotError
load_fault (reading.Read at) = Read at
load_fault (reading.Wire e) = Wire e
load_fault reading.TooLarge = TooLarge
load_fault reading.Ended = Memory
load_fault reading.Memory = Memory

module _ {K X : Type 0} (seen : X → Version K) where
  -- no two versions have the same key
  abbrev pub AreDistinct : List X → Type 0
  AreDistinct versions = AllPairs (λ v w. (seen v).key ≢ (seen w).key) versions

  module _ (reads : ℕ → List ℕ → Result X WireError) where
    -- The input begins with distinct versions and one more that repeats a key; the reader gave just their rows, which are within
    -- `limit` bytes, and has `left` then.
    pub record RepeatsKey (limit : ℕ) (input : List ℕ) (left : Option (List ℕ)) : Type 0 where
      pub versions : List X
      pub version : X
      pub others : List (Result X WireError)
      pub messages : messages_of reads input ≡ map sound versions ++ Ok version ∷ others
      pub distinct : AreDistinct versions
      pub earlier : X
      pub among : Contains versions earlier
      pub same_key : (seen earlier).key ≡ (seen version).key
      pub bytes : List ℕ
      pub rows : AreMessages reads bytes (versions ++ version ∷ [])
      pub size : length bytes ≤ limit
      pub read : Consumes (Some input) left bytes

    -- the map has exactly the versions of the input, of which no two have the same key
    abbrev pub IsLoaded : List ℕ → List X → Type 0
    IsLoaded input held = (versions : List X) × AreMessages reads input versions × AreDistinct versions × IsPermutation versions held

    -- the first fault, if at most `limit` bytes may be read: none of the versions before it repeats a key
    abbrev pub StopsLoadWithin : ℕ → List ℕ → Option (List ℕ) → SnapshotError → Type 0
    StopsLoadWithin limit input left (Read at) = (versions : List X) × StopsWithin reads limit input versions left (reading.Read at) × AreDistinct versions
    StopsLoadWithin limit input left (Wire e) = (versions : List X) × StopsWithin reads limit input versions left (reading.Wire e) × AreDistinct versions
    StopsLoadWithin limit input left TooLarge = (versions : List X) × StopsWithin reads limit input versions left reading.TooLarge × AreDistinct versions
    StopsLoadWithin limit input left DuplicateKey = RepeatsKey limit input left
    StopsLoadWithin limit input left Memory = ⊤
    StopsLoadWithin limit input left (Write k) = ⊥

    -- the first fault, if at most 64 MiB may be read
    abbrev pub StopsLoad : List ℕ → Option (List ℕ) → SnapshotError → Type 0
    StopsLoad input left e = StopsLoadWithin most input left e

-- the bytes of the input are not at fault: a read failed, or memory ran out
abbrev pub IsOutside : SnapshotError → Type 0
IsOutside (Read at) = ⊤
IsOutside Memory = ⊤
IsOutside _ = ⊥
