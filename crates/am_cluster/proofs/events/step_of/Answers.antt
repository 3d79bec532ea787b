use Rattle.am_cluster.proofs.Acted.{not_refused}
use Rattle.am_cluster.proofs.events.step_of.Goals as goal

pub returns-clause-not_refused : goal.returns-clause-not_refused
returns-clause-not_refused c = not_refused c.args.instance.now c.step-answer.new.self c.args.event c.args.now c.step-answer.result c.requires c.step-answer.ensures
