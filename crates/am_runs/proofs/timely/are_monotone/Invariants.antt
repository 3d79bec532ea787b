use Rattle.std.proofs.Common.{◌≡◌, map, drop}
use Rattle.am_runs.specs.Records.{step_of}
use Rattle.am_runs.specs.Tests.{are_monotone}
use Rattle.am_runs.proofs.timely.are_monotone.Given as goal

abbrev pub invariant-loop-step : goal.invariant-loop-step
invariant-loop-step g l = are_monotone l.clock (map step_of (drop l.step-index l.steps)) ≡ are_monotone 0 (map step_of l.steps)
