use Rattle.std.proofs.Common.{ℕ, List}
use Rattle.am_reactor.specs.Links.{Moves}
use Rattle.am_reactor.proofs.links.give_up_all.Given as goal

abbrev pub invariant-loop : goal.invariant-loop
invariant-loop g l = (peers : List ℕ) × Moves g.C.Stream.arrived g.C.Stream.gone g.S.Service.loses g.S.Service.gives peers l.fn.service l.fn.links l.service l.links
