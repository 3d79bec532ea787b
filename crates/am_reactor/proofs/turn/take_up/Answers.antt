use Rattle.am_reactor.proofs.Peering.{loops_apart}
use Rattle.am_reactor.proofs.turn.take_up.Goals as goal

pub returns : goal.returns
returns g c first begun loops = c.visit.ensures first begun (loops_apart g.S.Service _ _ _ _ _ _ c.reach_deadline.ensures.led first begun loops)
