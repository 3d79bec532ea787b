use Rattle.am_reactor.specs.Peered.{LoopGoesOn, held_by}
use Rattle.am_reactor.proofs.turn.release.Given as goal

abbrev pub invariant-loop : goal.invariant-loop
invariant-loop g l =
    LoopGoesOn g.S.Service l.fn.service (held_by l.fn.reactor) l.service (held_by l.reactor)
