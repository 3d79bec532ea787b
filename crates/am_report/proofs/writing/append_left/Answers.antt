use Rattle.am_merge.proofs.Keys.{key_order}
use Rattle.am_report.proofs.Differing.{none_told, told_more, told_all, all_lines}
use Rattle.am_report.specs.Less.{less_word}
use Rattle.am_report.proofs.writing.append_left.Goals as goal

pub loop-compared-init : goal.loop-compared-init
loop-compared-init g c = record { order = c.requires.order; told = none_told g.V.Version.seen g.V.Key.Ord.cmp _ _ _ _ _ }

pub loop-compared-preserved : goal.loop-compared-preserved
loop-compared-preserved g c = record {
  order = c.next_difference.ensures.order;
  told = told_more g.V.Version.seen g.V.Key.Ord.cmp _ _ _ _ _ _ _ _ _ _ c.loop-compared.invariant.told (c.next_difference.ensures.next c.loop-compared-test.true) c.in_ok-append_difference.ensures;
}

pub returns : goal.returns
returns g c =
    let keys = key_order g.met.V.Key.Ord.total g.met.V.Version.exact_keys in
    all_lines g.V.Version.seen g.V.Key.Ord.cmp _ _ g.V.ReportLine.begins (g.V.ReportLine.told c.args.format.now) (g.V.ReportLine.more c.args.format.now) (less_word g.V.Version.seen g.V.WithUnknown.unknown_of g.V.WithUnknown.known_of) _ _ _ _
    (told_all g.V.Version.seen g.V.Key.Ord.cmp _ _ _ keys _ _ _ _ _ c.loop-compared.invariant.told (c.next_difference.ensures.none c.loop-compared-test.false))
