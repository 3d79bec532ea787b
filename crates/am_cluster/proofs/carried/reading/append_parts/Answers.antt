use Rattle.std.proofs.Common.{map, sym, ◌∙◌}
use Rattle.am_instance.specs.Deliveries.{before_fault, rows_in}
use Rattle.am_cluster.specs.Contents.{delivery_of}
use Rattle.am_cluster.proofs.PartAdding.{part_added, part_stops}
use Rattle.am_cluster.proofs.carried.reading.append_parts.Goals as goal

pub returns-then-not-branch-clause-added : goal.returns-then-not-branch-clause-added
returns-then-not-branch-clause-added c =
    part_stops c.args.unknown (map delivery_of c.args.versions.now.items) (before_fault (rows_in c.args.unknown c.args.parts.now)) (map delivery_of c.loop-part.versions.items)
    c.args.parts.now c.loop-part.part-index c.part-item.result c.loop-part-test.true c.part-item.is c.loop-part.invariant.added
    (map delivery_of c.append_part.new.versions.items) (sym c.if-not-branch.true ∙ c.in_ok-append_part.ensures.sound) c.in_ok-append_part.ensures.added

pub loop-part-preserved : goal.loop-part-preserved
loop-part-preserved c = record {
  added = part_added c.args.unknown (map delivery_of c.args.versions.now.items) (before_fault (rows_in c.args.unknown c.args.parts.now)) (map delivery_of c.loop-part.versions.items)
      c.args.parts.now c.loop-part.part-index c.part-item.result c.loop-part-test.true c.part-item.is c.loop-part.invariant.added
      (map delivery_of c.append_part.new.versions.items) (sym c.if-not-branch.false ∙ c.in_ok-append_part.ensures.sound) c.in_ok-append_part.ensures.added;
  values = λ is. c.in_ok-append_part.ensures.values (c.loop-part.invariant.values is);
}
