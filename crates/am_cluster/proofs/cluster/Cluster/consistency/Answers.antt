use Rattle.std.proofs.Common.{subst}
use Rattle.am_cluster.specs.Clusters.{IsCluster}
use Rattle.am_cluster.specs.Reports.{AreRuns}
use Rattle.am_cluster.proofs.cluster.Cluster.consistency.Goals as goal

pub returns : goal.returns
returns c = subst IsCluster c.self.view_is (record {
  world = c.self.invariant.world;
  runs = subst (λ members. AreRuns members c.self.inside.journal.silences c.self.inside.journal.log) c.self.invariant.members c.consistency.ensures.runs;
  silences = c.consistency.ensures.silences;
  log = c.consistency.ensures.log;
  twins = c.consistency.ensures.twins;
  lines = c.consistency.ensures.lines;
})
