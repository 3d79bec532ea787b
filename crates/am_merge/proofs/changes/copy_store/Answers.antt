use Rattle.std.proofs.Common.{◌++◌, ◌∷◌, sym, ap, ◌∙◌}
use Rattle.am_merge.specs.Stores.{versions}
use Rattle.am_merge.proofs.Keys.{key_order}
use Rattle.am_merge.proofs.Steps.{order_front}
use Rattle.am_merge.proofs.changes.copy_store.Goals as goal

pub append-requires-clause-last : goal.append-requires-clause-last
append-requires-clause-last g c =
    order_front g.V.Version.seen g.V.Key.Ord.cmp (key_order g.met.V.Key.Ord.total g.met.V.Version.exact_keys) (versions c.loop-version.store) c.in_ok-try_clone.field-0 c.next.new.self (versions c.args.held.now)
    (ap (λ x. versions c.loop-version.store ++ x ∷ c.next.new.self) c.in_ok-try_clone.ensures ∙ ap (λ xs. versions c.loop-version.store ++ xs) (sym c.in-Some.ensures.steps) ∙ c.loop-version.invariant.all) c.requires.keys.order
