use Rattle.am_reactor.proofs.Peering.{loops_hears}
use Rattle.am_reactor.proofs.turn.exchange_all.Goals as goal

pub returns : goal.returns
returns g c first begun loops = loops_hears g.S.Service _ _ _ _ _ _ _ c.hear_all.ensures first begun (c.ask_all.ensures first begun loops)
