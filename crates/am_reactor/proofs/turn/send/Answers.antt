use Rattle.am_reactor.proofs.Peering.{loops_act, loops_handed}
use Rattle.am_reactor.proofs.turn.send.Goals as goal

pub loop-init : goal.loop-init
loop-init g c first begun loops = loops

pub loop-preserved : goal.loop-preserved
loop-preserved g c first begun loops =
    loops_handed g.S.Service _ _ _ _ _ _ _ _ _ c.in-Some.ensures.offered c.hand.ensures.others c.hand.ensures.handed first begun (c.loop.invariant first begun loops)

pub returns-in-None : goal.returns-in-None
returns-in-None g c first begun loops = loops_act g.S.Service _ _ _ _ _ c.in-None.ensures.offered first begun (c.loop.invariant first begun loops)
