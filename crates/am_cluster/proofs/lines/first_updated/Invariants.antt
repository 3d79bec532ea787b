use Rattle.std.proofs.Common.{◌≡◌, ◌≤◌, map, drop, min}
use Rattle.am_version_order.specs.Moments.{greatest}
use Rattle.am_cluster.specs.Versions.{least}
use Rattle.am_cluster.proofs.lines.first_updated.Given as goal

-- the least so far and that of what is left are the least of all
abbrev pub invariant-loop-line : goal.invariant-loop-line
invariant-loop-line g l = record {
  low : l.first ≤ greatest;
  all : min l.first (least (map g.L.VersionLine.updated_of (drop l.line-index l.lines))) ≡ least (map g.L.VersionLine.updated_of l.lines);
}
