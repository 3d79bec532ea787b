use Rattle.std.proofs.Common.{◌≡◌}
use Rattle.am_api_decisions.specs.Xxh64.{stripes}
use Rattle.am_api_decisions.proofs.xxhash.stripes.Given as goal

abbrev pub invariant-loop-number : goal.invariant-loop-number
invariant-loop-number l = l.accumulators ≡ stripes l.bytes l.number
