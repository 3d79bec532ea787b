use Rattle.std.proofs.Common.{arith, ◌∷◌, [], ◌++◌, List, sym, ap, ◌∙◌, subst}
use Rattle.std.proofs.lemmas.Grind.{common_steps}
use Rattle.std.specs.Vec.Iter.{into_iter_items}
use Rattle.std.proofs.lemmas.List.{append_assoc}
use Rattle.am_merge.proofs.Keys.{key_order}
use Rattle.am_merge.specs.Views.{HoldsBest}
use Rattle.am_snapshot.proofs.Bests.{IsBestAt-nil, IsBestAt-more, holds_best}
use Rattle.am_peers.proofs.shown.held_of.Goals as goal

pub loop-version-init : goal.loop-version-init
loop-version-init g c =
    let keys = key_order g.met.V.Key.Ord.total g.met.V.Version.exact_keys in
    rw c.new-held.ensures ([], c.into_iter-version-iterator.ensures.into_iter_gives.0, tt, IsBestAt-nil g.V.Version.seen g.V.Key.Ord.cmp keys)

pub loop-version-preserved : goal.loop-version-preserved
loop-version-preserved g c =
    let keys = key_order g.met.V.Key.Ord.total g.met.V.Version.exact_keys in
    let (taken, all, _, best) = c.loop-version.invariant in
    let put = c.in_ok-take.ensures.taken.put in (
      taken ++ c.in-Some.version ∷ [],
      append_assoc taken (c.in-Some.version ∷ []) (into_iter_items c.next.new.self) ∙ ap (λ xs. taken ++ xs) (sym c.in-Some.ensures.steps.0) ∙ all,
      put.order,
      IsBestAt-more g.V.Version.seen g.V.Key.Ord.cmp keys taken c.loop-version.held c.take.new.self c.in-Some.version put.joined best,
    )

pub returns-clause-best : goal.returns-clause-best
returns-clause-best g c =
    let keys = key_order g.met.V.Key.Ord.total g.met.V.Version.exact_keys in
    let (taken, all, map, best) = c.loop-version.invariant in
    subst (λ (set : List g.row.V.Denot). HoldsBest g.V.Version.seen set c.loop-version.held) (grind (arith, common_steps))
    (holds_best g.V.Version.seen g.V.Key.Ord.cmp keys taken c.loop-version.held map best)
