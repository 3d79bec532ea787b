use Rattle.std.proofs.Common.{◌≡◌, map, drop}
use Rattle.am_runs.specs.Records.{step_of}
use Rattle.am_runs.specs.Tests.{sent_in}
use Rattle.am_runs.proofs.timely.sent_in.Given as goal

abbrev pub invariant-loop-step : goal.invariant-loop-step
invariant-loop-step g l = sent_in l.left (map step_of (drop l.step-index l.steps)) ≡ sent_in l.number (map step_of l.steps)
