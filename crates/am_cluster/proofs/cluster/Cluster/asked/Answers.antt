use Rattle.am_cluster.proofs.Asked.{all_fit}
use Rattle.am_cluster.proofs.cluster.Cluster.asked.Goals as goal

pub returns-clause-fits : goal.returns-clause-fits
returns-clause-fits c = all_fit c.config.result.now c.args.event.now c.to_event.result c.to_event.ensures.asked c.to_event.ensures.sent c.to_event.ensures.brought
