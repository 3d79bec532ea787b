use Rattle.std.proofs.Common.{◌≡◌, drop, map, true}
use Rattle.am_runs.specs.Records.{step_of}
use Rattle.am_cluster.specs.DurableTests.{durable_from}
use Rattle.am_cluster.proofs.durable.starts_saved.Given as goal

abbrev pub invariant-loop-step : goal.invariant-loop-step
invariant-loop-step g l = durable_from g.V.Version.seen l.member l.saved (map step_of (drop l.step-index l.steps)) ≡ durable_from g.V.Version.seen l.member true (map step_of l.steps)
