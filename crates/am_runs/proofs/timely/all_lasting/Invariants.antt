use Rattle.std.proofs.Common.{◌≤◌, ◌+◌, take, map}
use Rattle.std.specs.Prelude.{All}
use Rattle.am_runs.specs.Records.{step_of}
use Rattle.am_runs.specs.Steps.{delivered_in}
use Rattle.am_runs.proofs.timely.all_lasting.Given as goal

abbrev pub invariant-loop-step : goal.invariant-loop-step
invariant-loop-step g l = All (λ v. ((g.V.Version.seen v).updated + l.spread) + l.flight ≤ (g.V.Version.seen v).expires) (delivered_in (map step_of (take l.step-index l.steps)))
