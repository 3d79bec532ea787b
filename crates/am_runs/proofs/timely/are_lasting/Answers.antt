use Rattle.std.proofs.Common.{◌≤◌, ◌+◌}
use Rattle.am_runs.proofs.Loops.{all_more}
use Rattle.am_runs.proofs.timely.are_lasting.Goals as goal

pub loop-version-preserved : goal.loop-version-preserved
loop-version-preserved g c =
    all_more (λ v. ((g.V.Version.seen v).updated + c.args.spread) + c.args.flight ≤ (g.V.Version.seen v).expires) c.args.versions.now c.loop-version.version-index c.version-item.result c.loop-version-test.true c.version-item.is c.loop-version.invariant
    (c.is_lasting.ensures.0 c.if-not-is_lasting.false)
