use Rattle.std.proofs.Common.{◌≤◌}
use Rattle.am_cluster.specs.Settling.{AreTurnsMade, spreadings}
use Rattle.am_cluster.proofs.cluster.Cluster.spread.Given as goal

abbrev pub invariant-loop-place : goal.invariant-loop-place
invariant-loop-place l = (1 ≤ l.place) × AreTurnsMade l.fn.self (spreadings l.place) l.fn.now l.fn.line l.self
