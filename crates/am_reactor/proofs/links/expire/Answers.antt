use Rattle.std.proofs.Common.{refl}
use Rattle.am_reactor.proofs.Moves.{moves_more, moves_none}
use Rattle.am_reactor.proofs.links.expire.Goals as goal

pub loop-init : goal.loop-init
loop-init g c = moves_none _ _ _ _ _ _

pub loop-preserved : goal.loop-preserved
loop-preserved g c = moves_more _ _ _ _ _ _ _ _ _ _ _ _ c.loop.invariant (λ _. refl) c.time_out_link.ensures.others c.time_out_link.ensures.moved
