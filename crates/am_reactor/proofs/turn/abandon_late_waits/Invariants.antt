use Rattle.am_reactor.specs.Peered.{LoopGoesOn, held_by}
use Rattle.am_reactor.proofs.turn.abandon_late_waits.Given as goal

abbrev pub invariant-loop-key : goal.invariant-loop-key
invariant-loop-key g l =
    LoopGoesOn g.S.Service l.fn.service (held_by l.fn.reactor) l.service (held_by l.reactor)
