use Rattle.std.specs.Vec.Iter.{into_iter_items}
use Rattle.am_merge.specs.Stores.{versions}
use Rattle.am_merge.proofs.Keys.{key_order}
use Rattle.am_merge.proofs.Steps.{order_front}
use Rattle.std.proofs.Common.{◌++◌, sym, ap, ◌∙◌}
use Rattle.am_merge.proofs.changes.from_sorted.Goals as goal

pub append-requires-clause-last : goal.append-requires-clause-last
append-requires-clause-last g c =
    order_front g.V.Version.seen g.V.Key.Ord.cmp (key_order g.met.V.Key.Ord.total g.met.V.Version.exact_keys) (versions c.loop-version.store) c.in-Some.version (into_iter_items c.next.new.self) c.args.sorted.items
    (ap (λ xs. versions c.loop-version.store ++ xs) (sym c.in-Some.ensures.steps.0) ∙ c.loop-version.invariant.all) c.requires
