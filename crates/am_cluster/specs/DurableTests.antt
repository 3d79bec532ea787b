-- The test whether a member is durable, which goes over the steps once.
-- X is the type of versions, and `seen` is what the merge sees of one.
use Rattle.std.specs.Prelude.{ℕ, List, [], ◌∷◌, Bool, true, false, not, ◌&&◌, ◌||◌, ◌==◌}
use Rattle.std.specs.List.{list_any}
use Rattle.am_version_order.specs.Versions.{Version, is_live}
use Rattle.am_runs.specs.Steps.{RunStep}
use Rattle.am_runs.specs.Steps.RunStep.{Took}
use Rattle.am_cluster.specs.Durable.{saves, starts}

module _ {K X : Type 0} (seen : X → Version K) where
  -- true if a step brings a member something live
  abbrev pub brings_live : ℕ → RunStep X → Bool
  brings_live q (Took place now source versions frames) = place == q && list_any (λ v. is_live now (seen v)) versions
  brings_live q _ = false

  -- true if, after one more step, a save stands behind each step that brought the member something live
  abbrev pub saved_after : ℕ → Bool → RunStep X → Bool
  saved_after q saved step = saves q step || (saved && not (brings_live q step))

  -- true if such a save stands behind each of them at every start in these steps; `saved` says whether it does at first
  abbrev pub durable_from : ℕ → Bool → List (RunStep X) → Bool
  durable_from q saved [] = true
  durable_from q saved (step ∷ steps) = not (starts q step && not saved) && durable_from q (saved_after q saved step) steps
