use Rattle.am_cluster.proofs.Answered.{step_replies}
use Rattle.am_cluster.proofs.laws.answered.answered_steps_reply.Goals as goal

pub returns : goal.returns
returns c = step_replies
