-- The maps that can be saved, and the state of the writer if a snapshot is not saved.
use Rattle.std.specs.Prelude.{◌≡◌, ℕ, ◌<◌, ◌≤◌, List, length, take, Option}
use Rattle.std.specs.Io.KnownBytes.{Appends}
use Rattle.std.specs.List.{All}
use Rattle.std.specs.declared.cmp.Ordering.{Ordering}
use Rattle.am_version_order.specs.Versions.{Version}
use Rattle.am_wire.specs.Limits.{most}
use Rattle.am_merge.specs.Maps.{IsMap}
use Rattle.am_snapshot.specs.Encodings.{row_encoding}
use Rattle.am_snapshot.specs.declared.error.SnapshotError.{SnapshotError}
use Rattle.am_snapshot.specs.declared.error.SnapshotError.TheVariants.{Write, TooLarge, Memory}

-- the row of the versions has at most `limit` bytes, and each of its messages can be read
pub record FitsRow {K X : Type 0} (seen : X → Version K) (limit : ℕ) (versions : List X) : Type 0 where
  pub short : All (λ v. length (seen v).content ≤ most) versions
  pub size : length (row_encoding seen versions) ≤ limit

-- a map of values whose row has at most `limit` bytes and can be read
pub record IsSavableWithin {K X : Type 0} (seen : X → Version K) (cmp : K → K → Ordering) (is_value : X → Type 0) (limit : ℕ) (map : List X) : Type 0 where
  pub order : IsMap seen cmp map
  pub values : All is_value map
  pub fits : FitsRow seen limit map

-- a map of values whose row has at most 64 MiB and can be read
abbrev pub IsSavable : {K X : Type 0} → (X → Version K) → (K → K → Ordering) → (X → Type 0) → List X → Type 0
IsSavable seen cmp is_value map = IsSavableWithin seen cmp is_value most map

-- Exactly the first bytes of the row went out, and not all; or else the writer is unchanged. `contents` is what it holds.
abbrev pub StopsSaving : {W : Type 0} → (W → Option (List ℕ)) → W → W → List ℕ → SnapshotError → Type 0
StopsSaving contents old new row (Write k) = (k < length row) × Appends (contents old) (contents new) (take k row)
StopsSaving contents old new row TooLarge = new ≡ old
StopsSaving contents old new row Memory = new ≡ old
StopsSaving contents old new row _ = ⊥
