use Rattle.std.proofs.Common.{sym, ◌∙◌}
use Rattle.am_cluster.proofs.Stepping.{deliver_stepped}
use Rattle.am_cluster.proofs.cluster.Cluster.step.Goals as goal

pub returns-in-Deliver : goal.returns-in-Deliver
returns-in-Deliver c = deliver_stepped c.args.self.now _ c.args.step.now c.args.line _ c.in-Deliver.at c.in-Deliver.frame (sym c.action.ensures ∙ c.in-Deliver.is) c.deliver.ensures
