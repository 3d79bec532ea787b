use Rattle.std.proofs.Common.{map, sym}
use Rattle.am_report.specs.Sources.{holding_of}
use Rattle.am_report.proofs.Ranking.{falls}
use Rattle.am_report.proofs.GroupLines.{next_under, written_none, written_more, written_all}
use Rattle.am_report.proofs.difference.append_others.Goals as goal

pub append_behind-requires : goal.append_behind-requires
append_behind-requires g c =
    next_under g.V.Version.seen (map holding_of c.args.sides.now) c.args.greatest.now c.loop-version.last.now c.in-Some.version.now c.loop-version.invariant.at c.in-Some.ensures

pub loop-version-init : goal.loop-version-init
loop-version-init g c = written_none g.V.Version.seen _ _ _ _ c.requires

pub loop-version-preserved : goal.loop-version-preserved
loop-version-preserved g c = written_more g.V.Version.seen _ _ _ _ _ _ _ _ c.loop-version.invariant c.in-Some.ensures c.in_ok-append_behind.ensures

pub loop-version-smaller : goal.loop-version-smaller
loop-version-smaller g c = falls g.V.Version.seen c.in-Some.version.now c.loop-version.last.now (map holding_of c.args.sides.now) (sym c.in-Some.ensures)

pub returns : goal.returns
returns g c = written_all g.V.Version.seen _ _ _ _ _ _ c.loop-version.invariant c.in_default.ensures
