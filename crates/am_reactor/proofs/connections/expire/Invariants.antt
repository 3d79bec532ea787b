use Rattle.am_reactor.specs.History.{LeadsOn, lines}
use Rattle.am_reactor.proofs.connections.expire.Given as goal

abbrev pub invariant-loop : goal.invariant-loop
invariant-loop g l = LeadsOn g.S.Service g.S.Service.acts g.C.Stream.arrived g.C.Stream.gone
    l.fn.service (lines l.fn.connections.table) l.service (lines l.connections.table)
