use Rattle.std.proofs.Common.{Some, refl, sym, ap, ◌∙◌, subst}
use Rattle.slab.specs.Slab.{Updates}
use Rattle.am_merge.proofs.Keys.{key_order}
use Rattle.am_merge.proofs.Steps.{added_keyed, added_versions}
use Rattle.am_merge.proofs.bulk.insert_by_key.Goals as goal

pub returns-clause-keyed : goal.returns-clause-keyed
returns-clause-keyed g c =
    added_keyed g.V.Version.seen g.V.Version.head_of g.V.Key.Ord.cmp (key_order g.met.V.Key.Ord.total g.met.V.Version.exact_keys) c.args.store.now (record c.args.store.now { table = c.insert_reserved.new.self; last = c.args.cursor }) c.insert.new.self c.vacant_key-slot.result c.head-head.result c.args.version c.args.cursor c.requires.keyed c.requires.cursor c.vacant_key-slot.ensures.vacant
    (subst (λ s. Updates c.args.store.now.table c.insert_reserved.new.self s (Some c.args.version)) (c.insert_reserved.ensures.key ∙ sym c.vacant_key-slot.ensures.value) c.insert_reserved.ensures.updates)
    refl (c.head-head.ensures ∙ ap g.V.Version.head_of c.key.ensures) c.insert.ensures.items c.insert_reserved.ensures.len

pub returns-clause-added : goal.returns-clause-added
returns-clause-added g c =
    added_versions g.V.Version.seen g.V.Version.head_of g.V.Key.Ord.cmp (key_order g.met.V.Key.Ord.total g.met.V.Version.exact_keys) c.args.store.now (record c.args.store.now { table = c.insert_reserved.new.self; last = c.args.cursor }) c.insert.new.self c.vacant_key-slot.result c.head-head.result c.args.version c.args.cursor c.requires.keyed c.requires.cursor c.vacant_key-slot.ensures.vacant
    (subst (λ s. Updates c.args.store.now.table c.insert_reserved.new.self s (Some c.args.version)) (c.insert_reserved.ensures.key ∙ sym c.vacant_key-slot.ensures.value) c.insert_reserved.ensures.updates)
    refl (c.head-head.ensures ∙ ap g.V.Version.head_of c.key.ensures) c.insert.ensures.items
