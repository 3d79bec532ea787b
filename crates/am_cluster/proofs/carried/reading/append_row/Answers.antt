use Rattle.am_cluster.proofs.RowAdding.{added_more}
use Rattle.am_cluster.proofs.carried.reading.append_row.Goals as goal

pub loop-message-preserved : goal.loop-message-preserved
loop-message-preserved g c =
    added_more _ _ _ _ _ c.loop-message.invariant c.next.new.self c.in-Ok.version c.carried.result c.in-Some.message c.push.new.self.items
    c.in-Some.ensures.steps c.in-Ok.is c.carried.ensures.same c.carried.ensures.value c.in_ok-push-in-Ok.ensures.items
