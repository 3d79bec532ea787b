use Rattle.std.proofs.Common.{◌≡◌, ◌++◌, map, drop, All}
use Rattle.am_instance.specs.Deliveries.{before_fault, rows_in}
use Rattle.am_cluster.specs.Contents.{delivery_of, IsValue}
use Rattle.am_cluster.proofs.carried.reading.append_parts.Given as goal

abbrev pub invariant-loop-part : goal.invariant-loop-part
invariant-loop-part l = record {
  added : map delivery_of l.versions.items ++ before_fault (rows_in l.unknown (drop l.part-index l.parts)) ≡ map delivery_of l.initial.versions.items ++ before_fault (rows_in l.unknown l.parts);
  values : All IsValue (map delivery_of l.initial.versions.items) → All IsValue (map delivery_of l.versions.items);
}
