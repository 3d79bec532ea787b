use Rattle.std.proofs.Common.{◌≡◌, ◌-◌, ◌^◌, min, take, sum_by}
use Rattle.am_matcher.specs.Entries.{entry_steps}
use Rattle.am_matcher.proofs.entries.long_steps.Given as goal

abbrev pub invariant-loop-entry : goal.invariant-loop-entry
invariant-loop-entry l = l.steps ≡ min (sum_by (entry_steps l.length) (take l.entry-index l.entries)) (2 ^ 64 - 1)
