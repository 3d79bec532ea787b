use Rattle.std.proofs.Common.{◌≡◌, map, drop}
use Rattle.std.specs.List.{list_all}
use Rattle.am_runs.specs.Records.{step_of}
use Rattle.am_runs.specs.Tests.{arrived_in_time}
use Rattle.am_runs.proofs.timely.are_swift.Given as goal

abbrev pub invariant-loop-step : goal.invariant-loop-step
invariant-loop-step g l = list_all (arrived_in_time l.flight (map step_of l.steps)) (map step_of (drop l.step-index l.steps)) ≡ list_all (arrived_in_time l.flight (map step_of l.steps)) (map step_of l.steps)
