use Rattle.std.proofs.Common.{refl}
use Rattle.am_merge.proofs.Keys.{key_order}
use Rattle.am_report.proofs.Differing.{none_told, told_more}
use Rattle.am_commands.proofs.Found.{silent, found_all}
use Rattle.am_commands.proofs.figures.count_left.Goals as goal

pub loop-found-init : goal.loop-found-init
loop-found-init g c = record { order = c.requires.order; told = none_told g.V.Version.seen g.V.Key.Ord.cmp _ _ silent _ _ }

pub loop-found-preserved : goal.loop-found-preserved
loop-found-preserved g c = record {
  order = c.next_difference.ensures.order;
  told = told_more g.V.Version.seen g.V.Key.Ord.cmp _ _ silent _ _ _ _ _ _ _ c.loop-found.invariant.told (c.next_difference.ensures.next c.loop-found-test.true) (λ key is. refl);
}

pub returns : goal.returns
returns g c =
    let keys = key_order g.met.V.Key.Ord.total g.met.V.Version.exact_keys in
    found_all g.V.Version.seen g.V.Key.Ord.cmp _ _ keys _ _ _ c.loop-found.invariant.told (c.next_difference.ensures.none c.loop-found-test.false)
