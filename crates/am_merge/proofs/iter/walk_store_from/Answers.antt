use Rattle.std.proofs.Common.{refl, sym, ap, ◌∙◌}
use Rattle.slab.specs.Slab.{get}
use Rattle.am_merge.specs.Rows.{entries}
use Rattle.am_merge.specs.Cursors.{place}
use Rattle.am_merge.specs.Entries.{versions_of, key_slot, key_entry}
use Rattle.am_merge.proofs.Indexes.{listed-drop}
use Rattle.am_merge.proofs.iter.walk_store_from.Goals as goal

pub returns : goal.returns
returns g c =
    ap (versions_of (get c.args.store.now.table)) c.walk_from.ensures
    ∙ sym (listed-drop key_slot (key_entry g.V.Version.seen g.V.Version.head_of) (λ s y. refl) (get c.args.store.now.table) (entries c.args.store.now.keys) (place c.args.store.now.keys c.key_front-front.result) c.requires.keys.index.sound)
    ∙ c.key_front-front.ensures.from
