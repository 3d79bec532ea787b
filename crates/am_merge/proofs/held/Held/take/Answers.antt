use Rattle.am_merge.specs.Stores.{versions}
use Rattle.am_merge.proofs.Keys.{key_order}
use Rattle.am_merge.proofs.Values.{all_of_put}
use Rattle.am_merge.proofs.held.Held.take.Goals as goal

pub invariant_of-self-2 : goal.invariant_of-self-2
invariant_of-self-2 g c =
    (c.in_ok-changed.ensures.store, all_of_put g.V.Version.seen g.V.Key.Ord.cmp (key_order g.met.V.Key.Ord.total g.met.V.Version.exact_keys) g.V.Version.is_value (versions c.self.inside.store) c.args.version (versions c.put.new.store) c.in_ok-changed.ensures.put c.self.invariant.1 c.canonical-content.ensures.value)
