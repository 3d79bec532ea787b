use Rattle.am_cluster.proofs.Answered.{step_goes}
use Rattle.am_cluster.proofs.laws.answered.answered_steps_go_on.Goals as goal

pub returns : goal.returns
returns c = λ old new action at line reply is moment stepped. step_goes old new is.world at line reply action moment stepped
