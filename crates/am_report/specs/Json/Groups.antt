-- A difference as a value of JSON: its key, and one group for those sources that hold the same there, greatest first.
-- X is the type of versions, `seen` is what the merge sees of one, `key_data` is the value of a key, `name` and
-- `value` are the name and the value of the member that is a version, and `by` says by what one is less than another.
use Rattle.std.specs.Prelude.{ℕ, List, [], ◌∷◌, ◌++◌, Option, Some, None, map, codes, if◌then◌else◌}
use Rattle.std.specs.List.{list_any}
use Rattle.serde_json.specs.Data.{Data, string, array, object, member, no_members}
use Rattle.serde_json.specs.View.{items_of}
use Rattle.am_version_order.specs.Versions.{Version}
use Rattle.am_report.specs.Sources.{Holding}
use Rattle.am_report.specs.Differences.{Difference, is_same}
use Rattle.am_report.specs.Ranked.{ranked}
use Rattle.am_report.specs.ReportLine.{holders}
use Rattle.am_report.specs.Json.Views.{list_line}

module _ {K X : Type 0} (seen : X → Version K) where
  -- [NAME,..]: the sources that hold this there, in their order
  abbrev pub sources_data : Option X → List (Holding X) → Data
  sources_data here holdings = array (items_of (map string (holders seen here holdings)))

  -- {"sources":NAMES,"relation":"missing"}
  abbrev pub missing_data : List (Holding X) → Data
  missing_data holdings =
      object (member (codes "sources") (sources_data None holdings) (member (codes "relation") (string (codes "missing")) no_members))

  -- those that hold nothing, if there are some
  abbrev pub missing_group : List (Holding X) → List Data
  missing_group holdings = if list_any (λ holding. is_same seen holding.here None) holdings then missing_data holdings ∷ [] else []

  module _ (name : List ℕ) (value : X → Data) where
    -- {"sources":NAMES,"relation":"greatest",NAME:VERSION}
    unfoldable pub greatest_data : List (Holding X) → X → Data
    greatest_data holdings greatest =
        object (
        member (codes "sources") (sources_data (Some greatest) holdings) (
        member (codes "relation") (string (codes "greatest")) (
        member name (value greatest) no_members)))

    module _ (by : X → X → List ℕ) where
      -- {"sources":NAMES,"relation":"behind","by":WHAT,NAME:VERSION}
      unfoldable pub behind_data : List (Holding X) → X → X → Data
      behind_data holdings greatest v =
          object (
          member (codes "sources") (sources_data (Some v) holdings) (
          member (codes "relation") (string (codes "behind")) (
          member (codes "by") (string (by v greatest)) (
          member name (value v) no_members))))

      -- the groups of these versions, which are all that are held
      abbrev pub version_groups : List (Holding X) → List X → List Data
      version_groups holdings [] = []
      version_groups holdings (greatest ∷ others) = greatest_data holdings greatest ∷ map (behind_data holdings greatest) others

      -- all groups
      abbrev pub groups_data : List (Holding X) → List Data
      groups_data holdings = version_groups holdings (ranked seen holdings) ++ missing_group holdings

      -- {"key":KEY,"groups":GROUPS}
      unfoldable pub difference_data : (K → Data) → Difference K X → Data
      difference_data key_data difference =
          object (
          member (codes "key") (key_data difference.key) (
          member (codes "groups") (array (items_of (groups_data difference.holdings))) no_members))

      -- all differences
      abbrev pub differences_line : (K → Data) → List (Difference K X) → List ℕ
      differences_line key_data differences = list_line (map (difference_data key_data) differences)
