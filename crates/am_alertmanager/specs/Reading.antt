-- A row that is read in stretches.
use Rattle.std.specs.Prelude.{◌≡◌, ◌≢◌, ℕ, ◌≤◌, List, ◌++◌, length, map, Contains, Option, MatchOption, Result}
use Rattle.std.specs.declared.cmp.Ordering.{Ordering}
use Rattle.std.specs.Io.KnownBytes.{Consumes}
use Rattle.am_version_order.specs.Versions.{Version}
use Rattle.am_merge.specs.Maps.{IsMap, at}
use Rattle.am_merge.specs.Views.{IsBest}
use Rattle.am_wire.specs.Inputs.{messages_from, messages_of, sound}
use Rattle.am_wire.specs.Limits.{most}
use Rattle.am_wire.specs.declared.error.WireError.{WireError}
use Rattle.am_wire.specs.declared.reader.RowPosition.{RowPosition}
use Rattle.am_wire.specs.declared.reader.RowPosition.TheVariants.{Before}

-- the best version of the key, or none if no version has it
abbrev pub IsGreatest : {K X : Type 0} → (X → Version K) → List X → K → Option X → Type 0
IsGreatest {K} {X} seen set key found = MatchOption found ((v : X) → Contains set v → (seen v).key ≢ key) (λ v. ((seen v).key ≡ key) × IsBest seen set v)

-- The bytes that were read since the start are a row of versions, whatever follows; the reader is at its end, and at each key
-- the map holds the greatest of these versions.
pub record IsReadFrom {K X : Type 0} (reads : ℕ → List ℕ → Result X WireError) (seen : X → Version K) (cmp : K → K → Ordering)
    (start now : Option (List ℕ)) (position : RowPosition) (map_read : List X) : Type 0 where
  pub bytes : List ℕ
  pub versions : List X
  pub consumed : Consumes start now bytes
  pub goes_on : (others : List ℕ) → messages_of reads (bytes ++ others) ≡ map sound versions ++ messages_from reads (length bytes) others
  pub stands : position ≡ Before (length bytes) most
  pub small : length bytes ≤ most
  pub order : IsMap seen cmp map_read
  pub best : (key : K) → IsGreatest seen versions key (at seen cmp map_read key)
