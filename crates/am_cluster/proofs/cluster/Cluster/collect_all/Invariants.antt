use Rattle.am_cluster.specs.Settling.{AreTurnsMade, collections}
use Rattle.am_cluster.proofs.cluster.Cluster.collect_all.Given as goal

abbrev pub invariant-loop-place : goal.invariant-loop-place
invariant-loop-place l = AreTurnsMade l.fn.self (collections l.place) l.fn.now l.fn.line l.self
