use Rattle.std.proofs.Common.{◌≤◌, List, map}
use Rattle.std.specs.Prelude.{All}
use Rattle.am_merge.specs.Maps.{IsMap}
use Rattle.am_report.specs.Differences.{AreDifferences, Difference}
use Rattle.am_report.specs.Sources.{left_of_all, rest_of}
use Rattle.am_report.proofs.differences.next_difference.Given as goal

-- what is different of what is left is all that is different
abbrev pub invariant-loop-version : goal.invariant-loop-version
invariant-loop-version g l = record {
  order : All (λ cursor. IsMap g.V.Version.seen g.V.Key.Ord.cmp cursor.left) l.sides;
  same : (differences : List (Difference g.row.V-Key.Denot g.row.V.Denot)) → AreDifferences g.V.Version.seen g.V.Key.Ord.cmp l.compared l.now (map rest_of l.sides) differences
      → AreDifferences g.V.Version.seen g.V.Key.Ord.cmp l.compared l.now (map rest_of l.fn.sides) differences;
  left : left_of_all l.sides ≤ left_of_all l.fn.sides;
}

abbrev pub decreases-loop-version : goal.decreases-loop-version
decreases-loop-version g l = left_of_all l.sides
