use Rattle.std.proofs.Common.{Some, refl, ap, ◌∙◌, subst}
use Rattle.std.proofs.lemmas.Option.{get_or_from_slice_get}
use Rattle.slab.specs.Slab.{Updates}
use Rattle.am_merge.specs.Rows.{entries}
use Rattle.am_merge.specs.Cursors.{place}
use Rattle.am_merge.specs.Entries.{key_slot}
use Rattle.am_merge.specs.Stores.{IsSlotAt}
use Rattle.am_merge.proofs.Keys.{key_order}
use Rattle.am_merge.proofs.Steps.{replaced_keyed, replaced_versions}
use Rattle.am_merge.proofs.bulk.replace_by_key.Goals as goal

pub returns-clause-keyed : goal.returns-clause-keyed
returns-clause-keyed g c =
    let own : IsSlotAt c.args.store.now.keys c.args.cursor c.get-slot.result.slot = λ e. ap key_slot (get_or_from_slice_get (entries c.args.store.now.keys) (place c.args.store.now.keys c.args.cursor) c.get-slot.result e c.get-slot.ensures) in
    let back = subst (λ s. Updates c.remove-replaced.new.self c.insert_reserved.new.self s (Some c.args.version)) (c.insert_reserved.ensures.key ∙ c.remove-replaced.ensures.key_is_next) c.insert_reserved.ensures.updates in
    replaced_keyed g.V.Version.seen g.V.Version.head_of g.V.Key.Ord.cmp (key_order g.met.V.Key.Ord.total g.met.V.Version.exact_keys) c.args.store.now (record c.args.store.now { table = c.remove-replaced.new.self }) (record c.args.store.now { table = c.insert_reserved.new.self; last = c.args.cursor }) c.get-slot.result.slot c.remove-replaced.result c.args.version c.args.cursor c.requires.keyed c.requires.cursor own c.remove-replaced.ensures.value c.remove-replaced.ensures.updates back refl refl c.remove-replaced.ensures.len c.insert_reserved.ensures.len

pub returns-clause-replaced : goal.returns-clause-replaced
returns-clause-replaced g c =
    let own : IsSlotAt c.args.store.now.keys c.args.cursor c.get-slot.result.slot = λ e. ap key_slot (get_or_from_slice_get (entries c.args.store.now.keys) (place c.args.store.now.keys c.args.cursor) c.get-slot.result e c.get-slot.ensures) in
    let back = subst (λ s. Updates c.remove-replaced.new.self c.insert_reserved.new.self s (Some c.args.version)) (c.insert_reserved.ensures.key ∙ c.remove-replaced.ensures.key_is_next) c.insert_reserved.ensures.updates in
    replaced_versions g.V.Version.seen g.V.Version.head_of g.V.Key.Ord.cmp (key_order g.met.V.Key.Ord.total g.met.V.Version.exact_keys) c.args.store.now (record c.args.store.now { table = c.remove-replaced.new.self }) (record c.args.store.now { table = c.insert_reserved.new.self; last = c.args.cursor }) c.get-slot.result.slot c.remove-replaced.result c.args.version c.args.cursor c.requires.keyed c.requires.cursor own c.remove-replaced.ensures.value c.remove-replaced.ensures.updates back refl refl
