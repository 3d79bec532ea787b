use Rattle.am_reactor.proofs.Peering.{loops_act}
use Rattle.am_reactor.proofs.turn.accept.Goals as goal
use Rattle.am_reactor.proofs.turn.accept.Goals.{in-Came, in-Missed}

pub loop-init : goal.loop-init
loop-init g c first begun loops = loops

pub loop-preserved : goal.loop-preserved
loop-preserved g c = elim c.match-accept.branch [
  | in-Came w ↦ rw w.service-is (rw w.reactor-is (λ first begun loops. w.admit.ensures first begun (c.loop.invariant first begun loops)))
  | in-Missed w ↦ rw w.service-is (rw w.reactor-is (λ first begun loops. loops_act g.S.Service _ _ _ _ _ w.accept_failed.ensures first begun (c.loop.invariant first begun loops)))
]
