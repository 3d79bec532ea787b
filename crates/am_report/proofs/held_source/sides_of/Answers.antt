use Rattle.std.proofs.lemmas.List.Elements.{All-push}
use Rattle.am_merge.specs.Maps.{IsMap}
use Rattle.am_report.specs.Sources.{MergeCursor}
use Rattle.am_report.proofs.Loops.{sides_more}
use Rattle.am_report.proofs.held_source.sides_of.Goals as goal

pub loop-replica-preserved : goal.loop-replica-preserved
loop-replica-preserved g c =
    let so_far = c.loop-replica.invariant in
    let more = rw (← c.replica-item.is) at (sides_more c.args.replicas.now c.loop-replica.replica-index c.replica-item.result _ c.loop-replica-test.true so_far.start) in
    record {
      start = rw (c.in_ok-push.ensures.items, c.new.ensures.start, c.name.ensures, c.held.ensures) more;
      order =
          rw c.in_ok-push.ensures.items
          (All-push (λ (cursor : MergeCursor _). IsMap g.V.Version.seen g.V.Key.Ord.cmp cursor.left) _ _ so_far.order (rw c.new.ensures.start c.new.ensures.order));
    }
