use Rattle.am_merge.specs.Stores.{versions}
use Rattle.am_merge.proofs.Keys.{key_order}
use Rattle.am_merge.proofs.Values.{all_of_taking}
use Rattle.am_merge.proofs.builder.HeldBuilder.take.Goals as goal

pub invariant_of-self : goal.invariant_of-self
invariant_of-self g c =
    (c.put_by_key.ensures.keyed, all_of_taking g.V.Version.seen g.V.Key.Ord.cmp (key_order g.met.V.Key.Ord.total g.met.V.Version.exact_keys) g.V.Version.is_value (versions c.self.inside.store) c.args.version (versions c.put_by_key.new.store) c.put_by_key.result c.put_by_key.ensures.put c.put_by_key.ensures.err c.self.invariant.1 c.canonical-content.ensures.value)
