use Rattle.std.proofs.Common.{refl, ◌∙◌}
use Rattle.am_merge.proofs.Keys.{key_order}
use Rattle.am_report.proofs.Differing.{none_told, told_more, told_all}
use Rattle.am_report.proofs.AllDifferences.{all_added}
use Rattle.am_report.specs.Less.{less_word}
use Rattle.am_report.proofs.json_lines.writing.add_left.Goals as goal

pub loop-alloc-init : goal.loop-alloc-init
loop-alloc-init g c = record {
  order = c.requires.order;
  before = refl;
  told = none_told g.V.Version.seen g.V.Key.Ord.cmp _ _ _ _ _;
}

pub loop-alloc-preserved : goal.loop-alloc-preserved
loop-alloc-preserved g c = record {
  order = c.next_difference.ensures.order;
  before = c.in_ok-add_difference.ensures.before ∙ c.loop-alloc.invariant.before;
  told = told_more g.V.Version.seen g.V.Key.Ord.cmp _ _ _ _ _ _ _ _ _ _ c.loop-alloc.invariant.told (c.next_difference.ensures.next c.loop-alloc-test.true) c.in_ok-add_difference.ensures.tokens;
}

pub returns : goal.returns
returns g c =
    let keys = key_order g.met.V.Key.Ord.total g.met.V.Version.exact_keys in
    all_added g.V.Version.seen g.V.Key.Ord.cmp g.V.InJson.key_data g.V.InJson.named (g.V.InJson.value c.args.now) (less_word g.V.Version.seen g.V.WithUnknown.unknown_of g.V.WithUnknown.known_of) _ _ _ _ _ _ c.loop-alloc.invariant.before
    (told_all g.V.Version.seen g.V.Key.Ord.cmp _ _ _ keys _ _ _ _ _ c.loop-alloc.invariant.told (c.next_difference.ensures.none c.loop-alloc-test.false))
