-- The stop of a fold that isn't written.
use Rattle.std.proofs.Common.{ℕ, List, Option, refl}
use Rattle.std.specs.List.{AllZip}
use Rattle.std.specs.declared.cmp.Ordering.{Ordering}
use Rattle.am_version_order.specs.Versions.{Version}
use Rattle.am_report.specs.Sources.{Source}
use Rattle.am_snapshot.specs.Saving.{StopsSaving}
use Rattle.am_snapshot.specs.Encodings.{row_encoding}
use Rattle.am_snapshot.specs.declared.error.SnapshotError.{SnapshotError}
use Rattle.am_snapshot.specs.declared.error.SnapshotError.TheVariants.{Read, Write, Wire, DuplicateKey, TooLarge, Memory}
use Rattle.am_commands.specs.declared.fault.SourceFault.{SourceFault}
use Rattle.am_commands.specs.declared.fault.Stopped.TheVariants as stopped
use Rattle.am_commands.specs.declared.source.Input.{Input}
use Rattle.am_commands.specs.Reading.{IsRead}
use Rattle.am_commands.specs.Folding.{IsFoldOf, IsFoldRow}
use Rattle.am_commands.specs.Telling.{StopsTelling}

module _ {K X S W : Type 0} (seen : X → Version K) (cmp : K → K → Ordering) (gives : S → List X → Type 0) (stops : S → SourceFault → Type 0)
    (inputs : List (Input S)) (contents : W → Option (List ℕ)) where
  pub unsaved_fold : (old new : W) (sources : List (Source X)) (held : List X) → AllZip (IsRead seen cmp gives) inputs sources
      → IsFoldOf seen cmp sources held → (e : SnapshotError) → StopsSaving contents old new (row_encoding seen held) e
      → StopsTelling seen cmp gives inputs contents (IsFoldRow seen cmp) stops old new (stopped.Output e)
  unsaved_fold old new sources held read folded (Write k) saving = record {
    sources = sources;
    read = read;
    text = row_encoding seen held;
    is = (held, folded, refl);
    part = saving.0;
    written = saving.1;
  }
  unsaved_fold old new sources held read folded TooLarge saving = saving
  unsaved_fold old new sources held read folded Memory saving = saving
  unsaved_fold old new sources held read folded (Read at) saving = saving
  unsaved_fold old new sources held read folded (Wire error) saving = saving
  unsaved_fold old new sources held read folded DuplicateKey saving = saving
