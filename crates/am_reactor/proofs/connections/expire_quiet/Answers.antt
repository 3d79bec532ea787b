use Rattle.am_reactor.proofs.Histories.{closes_none, closes_on, closes_one}
use Rattle.am_reactor.proofs.connections.expire_quiet.Goals as goal

pub loop-init : goal.loop-init
loop-init g c = closes_none _

pub loop-preserved : goal.loop-preserved
loop-preserved g c = closes_on _ _ _ c.loop.invariant (closes_one _ _ _ c.remove.ensures.removed)
