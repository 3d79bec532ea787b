use Rattle.am_reactor.proofs.Peering.{loops_apart}
use Rattle.am_reactor.proofs.turn.abandon_late_waits.Goals as goal
use Rattle.am_reactor.proofs.turn.abandon_late_waits.Goals.{then-abandon_late_wait, else-abandon_late_wait}

pub loop-key-preserved : goal.loop-key-preserved
loop-key-preserved g c = elim c.if-abandon_late_wait.branch [
  | then-abandon_late_wait w ↦ rw w.service-is (rw w.reactor-is (λ first begun loops. w.visit.ensures first begun
      (loops_apart g.S.Service _ _ _ _ _ _ c.abandon_late_wait.ensures.led first begun (c.loop-key.invariant first begun loops))))
  | else-abandon_late_wait w ↦ rw w.service-is (rw w.reactor-is (λ first begun loops.
      loops_apart g.S.Service _ _ _ _ _ _ c.abandon_late_wait.ensures.led first begun (c.loop-key.invariant first begun loops)))
]
