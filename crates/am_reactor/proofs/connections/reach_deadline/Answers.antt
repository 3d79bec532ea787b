use Rattle.std.proofs.Common.{refl}
use Rattle.am_reactor.proofs.Histories.{leads_call, leads_written}
use Rattle.am_reactor.proofs.connections.reach_deadline.Goals as goal

pub returns-clause-led : goal.returns-clause-led
returns-clause-led g c =
    leads_written g.S.Service _ _ _ _ _ _ _ _ _ _ c.begin_time.ensures c.in-Some.ensures.value (leads_call g.S.Service _ _ _ _ _ _ _ _ c.reach_deadline.ensures refl refl refl refl)
