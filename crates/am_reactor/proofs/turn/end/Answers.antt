use Rattle.am_reactor.proofs.Peering.{loops_apart, loops_moves, loops_over}
use Rattle.am_reactor.proofs.turn.end.Goals as goal

pub returns : goal.returns
returns g c first begun loops =
    c.resume.ensures first begun (loops_over g.S.Service _ _ _ _ _ _ c.expire-3.ensures first begun
    (loops_moves g.S.Service _ _ _ _ _ _ c.expire-2.ensures first begun (loops_apart g.S.Service _ _ _ _ _ _ c.expire.ensures first begun
    (c.abandon_late_waits.ensures first begun (c.take_up_due.ensures first begun loops)))))
