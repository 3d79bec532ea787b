use Rattle.std.proofs.Common.{refl}
use Rattle.am_reactor.proofs.Peering.{loops_apart, loops_same}
use Rattle.am_reactor.proofs.turn.release.Goals as goal

pub loop-init : goal.loop-init
loop-init g c = loops_apart g.S.Service _ _ _ _ _ _ c.release_all.ensures.led

pub loop-preserved : goal.loop-preserved
loop-preserved g c first begun loops =
    c.visit.ensures first begun (loops_same g.S.Service _ _ _ _ _ _ _ c.pop_held_back.ensures refl refl first begun (c.loop.invariant first begun loops))
