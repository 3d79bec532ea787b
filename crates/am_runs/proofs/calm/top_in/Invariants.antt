use Rattle.std.proofs.Common.{◌≡◌, map, drop, None}
use Rattle.am_runs.specs.Records.{step_of, tops_seen}
use Rattle.am_runs.specs.Tests.{tops_from}
use Rattle.am_runs.proofs.calm.top_in.Given as goal

abbrev pub invariant-loop-step : goal.invariant-loop-step
invariant-loop-step g l =
    let from = tops_from g.V.Version.seen g.V.Key.Ord.cmp l.member l.key in
    from (tops_seen l.tops) (map step_of (drop l.step-index l.steps)) ≡ from (record { top = None; saved = None }) (map step_of l.steps)
