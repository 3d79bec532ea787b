-- The account that a run keeps beside its steps.
-- X is the type of versions, and `seen` is what the merge sees of one.
use Rattle.std.specs.Prelude.{ℕ, List, All}
use Rattle.std.specs.declared.cmp.Ordering.{Ordering}
use Rattle.am_version_order.specs.Versions.{Version}
use Rattle.am_runs.specs.declared.member_index.MemberIndex.{MemberIndex}
use Rattle.am_runs.specs.Runs.{IsRun}
use Rattle.am_runs.specs.MemberIndexes.{AreMemberIndexes}
use Rattle.am_runs.specs.Steps.{RunStep, delivered_in}

-- the steps are a run, the versions delivered in them are values, and each member's index is right after them
pub record IsAccount {K X : Type 0} (seen : X → Version K) (cmp : K → K → Ordering) (is_value : X → Type 0)
    (members : ℕ) (steps : List (RunStep X)) (indexes : List (MemberIndex X K)) : Type 0 where
  pub run : IsRun seen cmp members steps
  pub values : All is_value (delivered_in steps)
  pub stands : AreMemberIndexes seen cmp indexes steps
