use Rattle.am_reactor.proofs.Peering.{loops_acts, loops_moves}
use Rattle.am_reactor.proofs.turn.begin.Goals as goal

pub returns : goal.returns
returns g c first begun loops =
    c.exchange_all.ensures first begun (loops_moves g.S.Service _ _ _ _ _ _ c.push_all.ensures first begun
    (c.send.ensures first begun (c.release.ensures first begun
    (loops_acts g.S.Service _ _ _ _ _ c.commit.ensures.acted first begun (c.wake-next.ensures first begun loops)))))
