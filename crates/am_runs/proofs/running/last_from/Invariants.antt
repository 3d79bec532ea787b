use Rattle.std.proofs.Common.{◌≡◌, map, drop}
use Rattle.am_runs.specs.Records.{step_of}
use Rattle.am_runs.specs.Tests.{last_from}
use Rattle.am_runs.proofs.running.last_from.Given as goal

abbrev pub invariant-loop-step : goal.invariant-loop-step
invariant-loop-step g l = last_from l.member l.last (map step_of (drop l.step-index l.steps)) ≡ last_from l.member 0 (map step_of l.steps)
