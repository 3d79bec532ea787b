-- The line of all differences of sources, and what went out if writing it stopped. X is the type of versions,
-- `seen` is what the merge sees of one, `key_data` is the value of a key, `name` and `value` are the name and the
-- value of the member that is a version, and `by` says by what one is less than another.
use Rattle.std.specs.Prelude.{◌≡◌, ℕ, Bool, List, Option, map}
use Rattle.std.specs.declared.cmp.Ordering.{Ordering}
use Rattle.json.specs.Written.{Written}
use Rattle.serde_json.specs.Data.{Data}
use Rattle.am_version_order.specs.Versions.{Version}
use Rattle.am_snapshot.specs.declared.error.SnapshotError.{SnapshotError}
use Rattle.am_snapshot.specs.declared.error.SnapshotError.TheVariants.{Write, Memory}
use Rattle.am_report.specs.Views.{StopsWriting}
use Rattle.am_report.specs.Sources.{Source}
use Rattle.am_report.specs.Differences.{AreDifferences, Difference}
use Rattle.am_report.specs.declared.compared.Compared.{Compared}
use Rattle.am_report.specs.ReportLine.{is_any}
use Rattle.am_silence_json.specs.Tokens.{Adds, row_tokens}
use Rattle.am_report.specs.Json.Groups.{difference_data, differences_line}

module _ {K X : Type 0} (seen : X → Version K) (cmp : K → K → Ordering) (key_data : K → Data) (name : List ℕ) (value : X → Data) (by : X → X → List ℕ) (compared : Compared)
    (now : ℕ) where
  -- the values of all differences of the sources are added, one after the other, and `found` says whether there is one
  pub record AreAdded (sources : List (Source X)) (found : Bool) (old new : Written) : Type 0 where
    pub differences : List (Difference K X)
    pub all : AreDifferences seen cmp compared now sources differences
    pub any : found ≡ is_any differences
    pub added : Adds old new (row_tokens (map (difference_data seen name value by key_data) differences))

  -- the line is that of all differences of the sources, and `found` says whether there is one
  pub record IsLine (sources : List (Source X)) (found : Bool) (line : List ℕ) : Type 0 where
    pub differences : List (Difference K X)
    pub all : AreDifferences seen cmp compared now sources differences
    pub any : found ≡ is_any differences
    pub text : line ≡ differences_line seen name value by key_data differences

  -- Exactly the first bytes of the line went out, and not all; or memory ran out, and the writer is as it was. `contents` is what it
  -- holds.
  abbrev pub StopsLine : List (Source X) → {W : Type 0} → (W → Option (List ℕ)) → W → W → SnapshotError → Type 0
  StopsLine sources contents old new (Write k) =
      (line : List ℕ) × (found : Bool) × IsLine sources found line × StopsWriting contents old new line (Write k)
  StopsLine sources contents old new Memory = new ≡ old
  StopsLine sources contents old new _ = ⊥
