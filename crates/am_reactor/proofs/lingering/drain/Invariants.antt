use Rattle.std.proofs.Common.{ℕ, List}
use Rattle.am_reactor.specs.History.{Throws, line_of}
use Rattle.am_reactor.proofs.lingering.drain.Given as goal

abbrev pub invariant-loop : goal.invariant-loop
invariant-loop g l = (bytes : List ℕ) × Throws g.C.Stream.arrived g.C.Stream.gone bytes (line_of l.fn.connection) (line_of l.connection)
