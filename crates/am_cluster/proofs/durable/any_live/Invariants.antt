use Rattle.std.proofs.Common.{◌≡◌, drop}
use Rattle.std.specs.List.{list_any}
use Rattle.am_version_order.specs.Versions.{is_live}
use Rattle.am_cluster.proofs.durable.any_live.Given as goal

abbrev pub invariant-loop-version : goal.invariant-loop-version
invariant-loop-version g l = list_any (λ v. is_live l.now (g.V.Version.seen v)) (drop l.version-index l.versions) ≡ list_any (λ v. is_live l.now (g.V.Version.seen v)) l.versions
