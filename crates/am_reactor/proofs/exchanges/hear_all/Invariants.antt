use Rattle.std.proofs.Common.{ℕ, List, length}
use Rattle.am_reactor.specs.Exchanges.{IsDriven, OneByOne}
use Rattle.am_reactor.proofs.exchanges.hear_all.Given as goal

abbrev pub invariant-loop : goal.invariant-loop
invariant-loop g l = (peers : List ℕ) × OneByOne (IsDriven g.C.Stream.arrived g.C.Stream.gone g.S.Service.answers g.S.Service.loses (length l.fn.piece)) peers
    l.fn.service l.fn.exchanges l.service l.exchanges
