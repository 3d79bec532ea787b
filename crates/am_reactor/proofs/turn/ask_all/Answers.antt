use Rattle.am_reactor.proofs.Peering.{loops_act, loops_asked}
use Rattle.am_reactor.proofs.turn.ask_all.Goals as goal

pub loop-init : goal.loop-init
loop-init g c first begun loops = loops

pub loop-preserved : goal.loop-preserved
loop-preserved g c first begun loops =
    loops_asked g.S.Service _ _ _ _ _ _ _ _ _ c.in-Some.ensures.asked c.ask.ensures.others c.ask.ensures.asked first begun (c.loop.invariant first begun loops)

pub returns-in-None : goal.returns-in-None
returns-in-None g c first begun loops = loops_act g.S.Service _ _ _ _ _ c.in-None.ensures.asked first begun (c.loop.invariant first begun loops)
