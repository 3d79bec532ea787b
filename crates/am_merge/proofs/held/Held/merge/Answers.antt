use Rattle.std.proofs.Common.{◌≡◌, subst, count_by}
use Rattle.std.specs.Prelude.{IfOk}
use Rattle.am_merge.specs.Maps.{replaces}
use Rattle.am_merge.specs.Stores.{versions}
use Rattle.am_merge.proofs.Keys.{key_order}
use Rattle.am_merge.proofs.Values.{all_of_merge}
use Rattle.am_merge.proofs.held.Held.merge.Goals as goal

pub returns-clause-count : goal.returns-clause-count
returns-clause-count g c =
    subst (λ m. IfOk c.merge_in.result (λ changed. changed ≡ count_by (replaces g.V.Version.seen g.V.Key.Ord.cmp m) c.args.other.now)) c.self.view_is
    (subst (λ o. IfOk c.merge_in.result (λ changed. changed ≡ count_by (replaces g.V.Version.seen g.V.Key.Ord.cmp (versions c.self.inside.store)) o)) c.other.view_is c.merge_in.ensures.count)

pub invariant_of-self : goal.invariant_of-self
invariant_of-self g c =
    (c.merge_in.ensures.store, all_of_merge g.V.Version.seen g.V.Key.Ord.cmp (key_order g.met.V.Key.Ord.total g.met.V.Version.exact_keys) g.V.Version.is_value (versions c.self.inside.store) (versions c.other.inside.store) (versions c.merge_in.new.store) c.merge_in.result c.merge_in.ensures.store.keys.order c.merge_in.ensures.joined c.merge_in.ensures.stopped c.self.invariant.1 c.other.invariant.1)
