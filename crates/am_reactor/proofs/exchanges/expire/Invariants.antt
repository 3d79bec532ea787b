use Rattle.std.proofs.Common.{ℕ, List}
use Rattle.am_reactor.specs.Exchanges.{IsTimedOut, OneByOne}
use Rattle.am_reactor.proofs.exchanges.expire.Given as goal

abbrev pub invariant-loop : goal.invariant-loop
invariant-loop g l = (peers : List ℕ) × OneByOne (IsTimedOut g.S.Service.loses) peers l.fn.service l.fn.exchanges l.service l.exchanges
