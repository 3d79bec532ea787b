use Rattle.std.proofs.Common.{◌≡◌, Some, None, refl, if◌then◌else◌}
use Rattle.am_alertmanager.specs.Mending.{kept, takes}
use Rattle.am_alertmanager.proofs.laws.what_is_taken_is_held.Goals as goal

pub returns : goal.returns
returns g c = λ now held v. elim held as (λ old. kept g.V.Version.seen now old v ≡ (if takes g.V.Version.seen now old v then Some v else old)) [
  | None ↦ refl
  | Some w ↦ refl
]
