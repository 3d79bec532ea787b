use Rattle.am_reactor.proofs.Peering.{loops_apart}
use Rattle.am_reactor.proofs.turn.make_room.Goals as goal
use Rattle.am_reactor.proofs.turn.make_room.Goals.{then-abandon_wait, else-abandon_wait}

pub returns : goal.returns
returns g c = elim c.if-abandon_wait.branch [
  | then-abandon_wait w ↦ λ first begun loops. loops_apart g.S.Service _ _ _ _ _ _ c.cut.ensures.led first begun (rw w.service-is (rw w.reactor-is
      (w.visit.ensures first begun (loops_apart g.S.Service _ _ _ _ _ _ c.abandon_wait.ensures.led first begun loops))))
  | else-abandon_wait w ↦ λ first begun loops. loops_apart g.S.Service _ _ _ _ _ _ c.cut.ensures.led first begun (rw w.service-is (rw w.reactor-is
      (loops_apart g.S.Service _ _ _ _ _ _ c.abandon_wait.ensures.led first begun loops)))
]
