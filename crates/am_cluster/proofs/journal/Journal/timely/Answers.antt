use Rattle.std.proofs.Common.{sym, subst}
use Rattle.am_nflog.specs.Mesh.{mesh_version as entry_version}
use Rattle.am_runs.specs.Runs.{IsCalmAt}
use Rattle.am_cluster.proofs.journal.Journal.timely.Goals as goal

pub returns-then-timely-clause-calm : goal.returns-then-timely-clause-calm
returns-then-timely-clause-calm c =
    rw (← c.self.view_is)
    (λ t place. (
      c.timely.ensures.calm c.if-timely.true place,
      subst (λ members. IsCalmAt entry_version members place c.self.inside.log.steps) (sym c.self.invariant.members) (c.timely-then-timely.ensures.calm t place),
    ))
