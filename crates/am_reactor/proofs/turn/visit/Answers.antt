use Rattle.am_reactor.proofs.Peering.{loops_apart}
use Rattle.am_reactor.proofs.turn.visit.Goals as goal

pub returns : goal.returns
returns g c first begun loops =
    c.send.ensures first begun (loops_apart g.S.Service _ _ _ _ _ _ c.relieve.ensures first begun
    (loops_apart g.S.Service _ _ _ _ _ _ c.drive_connection.ensures.led first begun loops))
