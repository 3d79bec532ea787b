use Rattle.std.proofs.Common.{◌≡◌, map, drop}
use Rattle.am_runs.specs.Records.{step_of, lasts_seen}
use Rattle.am_runs.specs.Tests.{lasts_from}
use Rattle.am_runs.proofs.calm.lasts_from.Given as goal

abbrev pub invariant-loop-step : goal.invariant-loop-step
invariant-loop-step g l = lasts_from l.member (lasts_seen l.lasts) (map step_of (drop l.step-index l.steps)) ≡ lasts_from l.member (lasts_seen l.fn.lasts) (map step_of l.steps)
