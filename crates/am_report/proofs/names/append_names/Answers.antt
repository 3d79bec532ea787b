use Rattle.std.proofs.lemmas.List.{take_all}
use Rattle.am_report.proofs.Naming.{none_named, named_more}
use Rattle.am_report.proofs.names.append_names.Goals as goal

pub loop-source-init : goal.loop-source-init
loop-source-init g c = none_named g.V.Version.seen _ _

pub loop-source-preserved : goal.loop-source-preserved
loop-source-preserved g c =
    named_more g.V.Version.seen _ c.args.sides.now c.loop-source.source-index c.source-item.result _ _ _ _ _ c.loop-source-test.true c.source-item.is c.loop-source.invariant
    c.in_ok-is_first.ensures.name c.in_ok-is_first.ensures.first

pub returns : goal.returns
returns g c = rw (take_all c.loop-source.source-index c.args.sides.now c.loop-source-test.false) at c.loop-source.invariant.text_is
