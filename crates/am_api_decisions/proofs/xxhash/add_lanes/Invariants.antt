use Rattle.std.proofs.Common.{◌≡◌}
use Rattle.am_api_decisions.specs.Xxh64.{add_lanes}
use Rattle.am_api_decisions.proofs.xxhash.add_lanes.Given as goal

abbrev pub invariant-loop-number : goal.invariant-loop-number
invariant-loop-number l = l.hash ≡ add_lanes l.start l.bytes l.number
