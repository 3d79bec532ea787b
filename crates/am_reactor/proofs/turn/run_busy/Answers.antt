use Rattle.std.proofs.Common.{refl}
use Rattle.am_reactor.proofs.Peering.{loops_same}
use Rattle.am_reactor.proofs.turn.run_busy.Goals as goal

pub loop-preserved : goal.loop-preserved
loop-preserved g c first begun loops =
    c.visit.ensures first begun (loops_same g.S.Service _ _ _ _ _ _ _ c.pop_busy.ensures refl refl first begun (c.loop.invariant first begun loops))
