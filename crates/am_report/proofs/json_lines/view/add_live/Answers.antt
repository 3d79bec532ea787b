use Rattle.am_report.proofs.Adding.{gone}
use Rattle.am_report.proofs.json_lines.view.add_live.Goals as goal

pub loop-version-preserved : goal.loop-version-preserved
loop-version-preserved g c = record {
  before = c.loop-version.invariant.before;
  tokens = rw (gone g.V.Version.seen c.args.now c.if-lt.ensures c.expires.ensures c.in-Some.ensures.steps) c.loop-version.invariant.tokens;
}
