use Rattle.std.proofs.Common.{◌≡◌, ℕ, None, get_or}
use Rattle.am_reactor.proofs.peers.vacant.Given as goal

abbrev pub invariant-loop : goal.invariant-loop
invariant-loop g l = (place : ℕ) → get_or l.places.items place None ≡ None
