use Rattle.am_reactor.proofs.Histories.{closes_one, leads_closes, leads_stays}
use Rattle.am_reactor.proofs.Peering.{loops_act, loops_apart}
use Rattle.am_reactor.proofs.turn.enter.Goals as goal

pub returns-in-Err : goal.returns-in-Err
returns-in-Err g c first begun loops =
    loops_act g.S.Service _ _ _ _ _ c.accept_failed.ensures first begun
    (loops_apart g.S.Service _ _ _ _ _ _ (leads_closes g.S.Service _ _ _ _ _ _ (closes_one _ _ _ c.remove.ensures.removed)) first begun
    (loops_apart g.S.Service _ _ _ _ _ _ (leads_stays g.S.Service _ _ _ _ _ _ _ c.register-registered.ensures) first begun loops))

pub returns : goal.returns
returns g c first begun loops =
    c.visit.ensures first begun (loops_apart g.S.Service _ _ _ _ _ _ (leads_stays g.S.Service _ _ _ _ _ _ _ c.register-registered.ensures) first begun loops)
