use Rattle.am_reactor.specs.History.{Closes, lines}
use Rattle.am_reactor.proofs.connections.drop_unfinished.Given as goal

abbrev pub invariant-loop-key : goal.invariant-loop-key
invariant-loop-key g l = Closes (lines l.fn.connections.table) (lines l.connections.table)
