use Rattle.am_cluster.proofs.cluster.Cluster.durable.Goals as goal

pub returns : goal.returns
returns c = rw (← c.self.view_is) c.durable.ensures
