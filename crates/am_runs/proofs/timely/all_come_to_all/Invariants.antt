use Rattle.std.proofs.Common.{map, take}
use Rattle.std.specs.Prelude.{All}
use Rattle.am_runs.specs.Records.{step_of}
use Rattle.am_runs.specs.Steps.{delivered_in}
use Rattle.am_runs.specs.Tests.{ComesToAll}
use Rattle.am_runs.proofs.timely.all_come_to_all.Given as goal

abbrev pub invariant-loop-step : goal.invariant-loop-step
invariant-loop-step g l = All (ComesToAll g.V.Version.seen g.V.Key.Ord.cmp l.spread l.members (map step_of l.steps)) (delivered_in (map step_of (take l.step-index l.steps)))
