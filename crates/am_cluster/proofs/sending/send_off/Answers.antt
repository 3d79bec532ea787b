use Rattle.std.proofs.Common.{arith}
use Rattle.am_cluster.proofs.Departing.{sent_one}
use Rattle.am_cluster.proofs.sending.send_off.Goals as goal

pub loop-addressee-preserved : goal.loop-addressee-preserved
loop-addressee-preserved c =
    sent_one _ _ _ _ _ _ _ _ _ _ (c.in-Some.addressee, c.in-Some.frame) _ _ _ c.loop-addressee.invariant c.in-Some.ensures.steps.0 c.push_reserved.ensures.items
    (let capacity = c.push_reserved.ensures.capacity in let len = c.push_reserved.ensures.len in omega arith)
