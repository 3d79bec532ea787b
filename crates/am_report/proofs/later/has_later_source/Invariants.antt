use Rattle.std.proofs.Common.{◌≡◌, take}
use Rattle.am_report.specs.Later.{has_later_source}
use Rattle.am_report.proofs.later.has_later_source.Given as goal

-- whether it is among those before
abbrev pub invariant-loop-replica : goal.invariant-loop-replica
invariant-loop-replica g l = l.found ≡ has_later_source g.V.Version.seen l.now (take l.replica-index l.replicas)
