-- The lines of all differences of sources, and what went out if writing them stopped. X is the type of versions,
-- `seen` is what the merge sees of one, `begins` are the words of a key with which each of its lines begins, `told`
-- are the words of a version, `more` is the text below its line, and `by` says by what it is less than another.
use Rattle.std.specs.Prelude.{◌≡◌, ℕ, ◌<◌, Bool, List, length, take, Option}
use Rattle.std.specs.Io.KnownBytes.{Appends}
use Rattle.std.specs.declared.cmp.Ordering.{Ordering}
use Rattle.am_version_order.specs.Versions.{Version}
use Rattle.am_report.specs.Sources.{Source}
use Rattle.am_report.specs.Differences.{AreDifferences, Difference}
use Rattle.am_report.specs.declared.compared.Compared.{Compared}
use Rattle.am_snapshot.specs.declared.error.SnapshotError.{SnapshotError}
use Rattle.am_snapshot.specs.declared.error.SnapshotError.TheVariants.{Write, Memory}
use Rattle.am_report.specs.ReportLine.{is_any, lines_of}

module _ {K X : Type 0} (seen : X → Version K) (cmp : K → K → Ordering) (begins : K → List ℕ) (told : X → List ℕ) (more by : X → X → List ℕ) (compared : Compared) (now : ℕ) where
  -- the lines are those of all differences of the sources, and `found` says whether there is one
  pub record AreLines (sources : List (Source X)) (found : Bool) (lines : List ℕ) : Type 0 where
    pub differences : List (Difference K X)
    pub all : AreDifferences seen cmp compared now sources differences
    pub any : found ≡ is_any differences
    pub text : lines ≡ lines_of seen begins told more by differences

  -- Exactly the first bytes of the lines went out, and not all; or memory ran out, and the writer is as it was. `contents` is what
  -- it holds.
  abbrev pub StopsLines : List (Source X) → {W : Type 0} → (W → Option (List ℕ)) → W → W → SnapshotError → Type 0
  StopsLines sources contents old new (Write k) =
      (lines : List ℕ) × (found : Bool) × AreLines sources found lines × (k < length lines) × Appends (contents old) (contents new) (take k lines)
  StopsLines sources contents old new Memory = new ≡ old
  StopsLines sources contents old new _ = ⊥
