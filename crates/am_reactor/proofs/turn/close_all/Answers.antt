use Rattle.am_reactor.proofs.Peering.{loops_apart, loops_moves, loops_over}
use Rattle.am_reactor.proofs.turn.close_all.Goals as goal

pub returns : goal.returns
returns g c first begun loops =
    loops_over g.S.Service _ _ _ _ _ _ c.give_up_all-2.ensures first begun
    (loops_moves g.S.Service _ _ _ _ _ _ c.give_up_all.ensures first begun (loops_apart g.S.Service _ _ _ _ _ _ c.cut_all.ensures first begun loops))
