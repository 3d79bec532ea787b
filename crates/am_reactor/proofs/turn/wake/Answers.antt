use Rattle.std.proofs.Common.{ap}
use Rattle.am_reactor.proofs.Histories.{leads_closes}
use Rattle.am_reactor.proofs.Peering.{loops_act, loops_apart, loops_same}
use Rattle.am_reactor.proofs.turn.wake.Goals as goal

pub returns-in-GoOn-Some : goal.returns-in-GoOn-Some
returns-in-GoOn-Some g c = loops_act g.S.Service _ _ _ _ _ c.wake.ensures

pub returns-in-GoOn-None : goal.returns-in-GoOn-None
returns-in-GoOn-None g c = loops_act g.S.Service _ _ _ _ _ c.wake.ensures

pub returns-in-Stop : goal.returns-in-Stop
returns-in-Stop g c first begun loops =
    c.take_up_all.ensures first begun (loops_apart g.S.Service _ _ _ _ _ _ (leads_closes g.S.Service _ _ _ _ _ _ c.drop_unfinished.ensures) first begun
    (loops_same g.S.Service _ _ _ _ _ _ _ (ap (λ k. k.table) c.begin_stop.ensures.connections) c.begin_stop.ensures.links c.begin_stop.ensures.exchanges first begun
    (loops_act g.S.Service _ _ _ _ _ c.wake.ensures first begun loops)))
