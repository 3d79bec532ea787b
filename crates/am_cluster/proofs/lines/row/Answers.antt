use Rattle.std.proofs.Common.{ap, arith}
use Rattle.am_cluster.proofs.ReadAgain.{row_more, row_end}
use Rattle.am_cluster.proofs.lines.row.Goals as goal

pub loop-line-preserved : goal.loop-line-preserved
loop-line-preserved g c =
    let version_of = g.L.VersionLine.version_of in
    row_more g.V.Version.seen g.V.Message.reads version_of c.args.lines.now c.loop-line.line-index c.loop-line.row.items c.append.new.row.items c.line-item.result (version_of c.get.result.now)
    (omega arith) c.line-item.is (ap version_of c.get.ensures) c.in_ok-append.ensures.again c.loop-line.invariant c.in_ok-append.ensures.row

pub returns-clause-read : goal.returns-clause-read
returns-clause-read g c =
    row_end g.V.Version.seen g.V.Message.reads g.L.VersionLine.version_of c.args.lines.now c.loop-line.line-index c.loop-line.row.items c.new.result c.loop-line-test.false c.loop-line.invariant c.new.ensures
