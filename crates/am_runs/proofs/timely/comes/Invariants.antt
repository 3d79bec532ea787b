use Rattle.std.proofs.Common.{◌≡◌, map, drop, true, false}
use Rattle.am_runs.specs.Records.{step_of, watch_seen}
use Rattle.am_runs.specs.Tests.{comes}
use Rattle.am_runs.proofs.timely.comes.Given as goal

abbrev pub invariant-loop-step : goal.invariant-loop-step
invariant-loop-step g l =
    let from = comes g.V.Version.seen g.V.Key.Ord.cmp l.spread l.member l.version in
    from (watch_seen l.watch) (map step_of (drop l.step-index l.steps)) ≡ from (record { runs = true; has = false; saved = false }) (map step_of l.steps)
