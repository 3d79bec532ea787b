use Rattle.std.proofs.Common.{◌≡◌, map, drop}
use Rattle.am_runs.specs.Records.{step_of}
use Rattle.am_runs.specs.Tests.{runs_from}
use Rattle.am_runs.proofs.running.runs_from.Given as goal

abbrev pub invariant-loop-step : goal.invariant-loop-step
invariant-loop-step g l = runs_from l.member l.runs (map step_of (drop l.step-index l.steps)) ≡ runs_from l.member l.fn.runs (map step_of l.steps)
