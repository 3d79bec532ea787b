use Rattle.std.proofs.Common.{◌≤◌, take}
use Rattle.am_api_decisions.specs.ParsedCalls.{AreWithin}
use Rattle.am_api_decisions.proofs.parsed_call.longest_of.Given as goal

abbrev pub invariant-loop-label : goal.invariant-loop-label
invariant-loop-label l = AreWithin l.longest (take l.label-index l.labels) × (l.fn.longest ≤ l.longest)
