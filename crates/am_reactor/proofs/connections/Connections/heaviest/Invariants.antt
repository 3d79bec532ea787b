use Rattle.std.proofs.Common.{ℕ, ◌<◌, ◌≤◌}
use Rattle.am_reactor.specs.Holding.{held_under}
use Rattle.am_reactor.proofs.connections.Connections.heaviest.Given as goal

abbrev pub invariant-loop-key : goal.invariant-loop-key
invariant-loop-key g l = (other : ℕ) → other < l.key → held_under l.self.table other ≤ held_under l.self.table l.heaviest
