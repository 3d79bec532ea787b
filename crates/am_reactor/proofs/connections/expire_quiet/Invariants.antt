use Rattle.am_reactor.specs.History.{Closes, lines}
use Rattle.am_reactor.proofs.connections.expire_quiet.Given as goal

abbrev pub invariant-loop : goal.invariant-loop
invariant-loop g l = Closes (lines l.fn.connections.table) (lines l.connections.table)
