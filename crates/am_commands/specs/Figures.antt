-- The differences of sources as figures, and what went out if writing them stopped.
-- X is the type of versions, `seen` is what the merge sees of one, and `contents` is what a writer holds.
use Rattle.std.specs.Prelude.{◌≡◌, ℕ, Bool, List, Option}
use Rattle.std.specs.declared.cmp.Ordering.{Ordering}
use Rattle.am_version_order.specs.Versions.{Version}
use Rattle.am_metrics.specs.Expositions.{exposition}
use Rattle.am_metrics.specs.declared.family.Family.{Family}
use Rattle.am_report.specs.Sources.{Source}
use Rattle.am_report.specs.Differences.{AreDifferences, Difference}
use Rattle.am_report.specs.ReportLine.{is_any}
use Rattle.am_report.specs.Views.{StopsWriting}
use Rattle.am_report.specs.declared.compared.Compared.{Compared}
use Rattle.am_snapshot.specs.declared.error.SnapshotError.{SnapshotError}
use Rattle.am_snapshot.specs.declared.error.SnapshotError.TheVariants.{Write, Memory}

module _ {K X : Type 0} (seen : X → Version K) (cmp : K → K → Ordering) (compared : Compared) (now : ℕ) where
  -- true if the sources differ at any key
  pub record IsFound (sources : List (Source X)) (found : Bool) : Type 0 where
    pub differences : List (Difference K X)
    pub all : AreDifferences seen cmp compared now sources differences
    pub any : found ≡ is_any differences

  -- the text has figures in Prometheus' format, and `found` says whether the sources differ
  pub record AreFigures (sources : List (Source X)) (found : Bool) (text : List ℕ) : Type 0 where
    pub differs : IsFound sources found
    pub families : List Family
    pub form : text ≡ exposition families

  -- exactly the first bytes of the text went out, and not all; or memory ran out, and the writer is as it was
  abbrev pub StopsFigures : List (Source X) → {W : Type 0} → (W → Option (List ℕ)) → W → W → SnapshotError → Type 0
  StopsFigures sources contents old new (Write k) =
      (text : List ℕ) × (found : Bool) × AreFigures sources found text × StopsWriting contents old new text (Write k)
  StopsFigures sources contents old new Memory = new ≡ old
  StopsFigures sources contents old new _ = ⊥
