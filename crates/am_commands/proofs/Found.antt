-- The answer whether sources differ, at the end of a walk on which nothing is printed.
use Rattle.std.proofs.Common.{ℕ, List, [], map}
use Rattle.std.specs.Prelude.{Bool}
use Rattle.std.specs.declared.cmp.Ordering.{Ordering}
use Rattle.am_version_order.specs.Versions.{Version}
use Rattle.am_merge.proofs.Keys.{IsKeyOrder}
use Rattle.am_report.specs.Sources.{MergeCursor, rest_of}
use Rattle.am_report.specs.Differences.{AreDifferences, Difference}
use Rattle.am_report.specs.declared.compared.Compared.{Compared}
use Rattle.am_report.proofs.Differing.{AreTold, told_all}
use Rattle.am_commands.specs.Figures.{IsFound}

-- nothing is told of a difference
abbrev pub silent : {D : Type 0} → D → List ℕ
silent d = []

module _ {K X : Type 0} (seen : X → Version K) (cmp : K → K → Ordering) (compared : Compared) (now : ℕ) where
  -- the walk has come from all sides to those that are left
  abbrev pub IsCounted : List (MergeCursor X) → List (MergeCursor X) → Bool → Type 0
  IsCounted all left found = AreTold seen cmp compared now (silent {D = Difference K X}) all left [] [] found

  pub found_all : IsKeyOrder cmp → (all left : List (MergeCursor X)) (found : Bool) → IsCounted all left found
      → AreDifferences seen cmp compared now (map rest_of left) [] → IsFound seen cmp compared now (map rest_of all) found
  found_all keys all left found told none =
      let end = told_all seen cmp compared now (silent {D = Difference K X}) keys all left [] [] found told none in
      record { differences = end.differences; all = end.are; any = end.any }
