use Rattle.std.proofs.Common.{subst}
use Rattle.am_cluster.specs.Reports.{IsCalmInBoth}
use Rattle.am_cluster.proofs.cluster.Cluster.timely.Goals as goal

pub returns-clause-calm : goal.returns-clause-calm
returns-clause-calm c =
    rw (← c.self.view_is)
    (λ t place. subst (λ members. IsCalmInBoth members place c.self.inside.journal.silences c.self.inside.journal.log) c.self.invariant.members (c.timely.ensures.calm t place))
