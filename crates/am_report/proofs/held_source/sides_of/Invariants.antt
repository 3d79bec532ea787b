use Rattle.std.proofs.Common.{◌≡◌, take, map}
use Rattle.std.specs.Prelude.{All}
use Rattle.am_merge.specs.Maps.{IsMap}
use Rattle.am_report.specs.Sources.{side_of}
use Rattle.am_report.proofs.held_source.sides_of.Given as goal

abbrev pub invariant-loop-replica : goal.invariant-loop-replica
invariant-loop-replica g l = record {
  start : l.sides.items ≡ map side_of (take l.replica-index l.replicas);
  order : All (λ cursor. IsMap g.V.Version.seen g.V.Key.Ord.cmp cursor.left) l.sides.items;
}
