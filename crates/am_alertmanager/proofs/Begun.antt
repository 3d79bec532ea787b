-- The part of a row that was read, in the terms of am_snapshot's lemmas.
use Rattle.std.proofs.Common.{ℕ, List, Option, Result}
use Rattle.std.specs.declared.cmp.Ordering.{Ordering}
use Rattle.am_version_order.specs.Versions.{Version}
use Rattle.am_merge.specs.Maps.{IsMap, at}
use Rattle.am_snapshot.proofs.Bests.{IsBestAt}
use Rattle.am_snapshot.proofs.RowReads.{ReadsSoFar}
use Rattle.am_wire.specs.Limits.{most}
use Rattle.am_wire.specs.declared.error.WireError.{WireError}
use Rattle.am_wire.specs.declared.reader.RowPosition.{RowPosition}
use Rattle.am_alertmanager.specs.Reading.{IsReadFrom}

module _ {K X : Type 0} (reads : ℕ → List ℕ → Result X WireError) (seen : X → Version K) (cmp : K → K → Ordering)
    (start now : Option (List ℕ)) (position : RowPosition) where
  pub as_read : (bytes : List ℕ) (versions map : List X) → ReadsSoFar reads most start now position bytes versions
      → IsMap seen cmp map → ((key : K) → IsBestAt seen versions key (at seen cmp map key)) → IsReadFrom reads seen cmp start now position map
  as_read bytes versions map read order best = record {
    bytes = bytes;
    versions = versions;
    consumed = read.consumed;
    goes_on = read.read.reads_on;
    stands = read.stands;
    small = read.small;
    order = order;
    best = best;
  }

  pub read_so_far : (map : List X) → (from : IsReadFrom reads seen cmp start now position map) → ReadsSoFar reads most start now position from.bytes from.versions
  read_so_far map from = record { consumed = from.consumed; read = record { reads_on = from.goes_on }; stands = from.stands; small = from.small }
