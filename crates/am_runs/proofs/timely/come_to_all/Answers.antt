use Rattle.std.proofs.Common.{map}
use Rattle.am_runs.specs.Records.{step_of}
use Rattle.am_runs.specs.Tests.{ComesToAll}
use Rattle.am_runs.proofs.Loops.{all_more}
use Rattle.am_runs.proofs.timely.come_to_all.Goals as goal

pub loop-version-preserved : goal.loop-version-preserved
loop-version-preserved g c =
    all_more (ComesToAll g.V.Version.seen g.V.Key.Ord.cmp c.args.spread c.args.members (map step_of c.args.steps.now)) c.args.versions.now c.loop-version.version-index c.version-item.result c.loop-version-test.true c.version-item.is c.loop-version.invariant
    (c.comes_to_all.ensures.0 c.if-not-comes_to_all.false)
