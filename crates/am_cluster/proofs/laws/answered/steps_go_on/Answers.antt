use Rattle.am_cluster.proofs.Extending.{step_extends}
use Rattle.am_cluster.proofs.laws.answered.steps_go_on.Goals as goal

pub returns : goal.returns
returns c = λ old new action line result is stepped. step_extends old new is.world line result action stepped
