use Rattle.std.proofs.Common.{[], ◌∷◌}
use Rattle.am_runs.specs.Runs.{IsPossible, IsCalmStep}
use Rattle.am_runs.proofs.Cuts.{each_front, each_last, each_push}
use Rattle.am_runs.proofs.Pasts.{member_of-push}
use Rattle.am_runs.proofs.laws.one_step_more.Goals as goal

pub returns : goal.returns
returns g c = record {
  run = λ members steps step.
      let P = IsPossible g.V.Version.seen g.V.Key.Ord.cmp members in
      (λ run. (each_front P steps (step ∷ []) run, each_last P steps step run), λ both. each_push P steps step both.0 both.1);
  member = member_of-push;
  calm = λ members place steps step.
      let P = IsCalmStep g.V.Version.seen members place in
      (λ calm. (each_front P steps (step ∷ []) calm, each_last P steps step calm), λ both. each_push P steps step both.0 both.1);
}
