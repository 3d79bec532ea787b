use Rattle.std.proofs.Common.{sym, subst, ◌∙◌, ap, map}
use Rattle.std.proofs.lemmas.List.Elements.{All-from_recursion}
use Rattle.slab.specs.Slab.{get}
use Rattle.am_merge.specs.Indexes.{IsIndex, Names}
use Rattle.am_merge.specs.Entries.{key_slot, key_entry}
use Rattle.am_merge.specs.Buckets.{bucket_slot, bucket_entry}
use Rattle.am_merge.specs.Rows.{entries}
use Rattle.am_merge.specs.Stores.{HasSlot, IsKeyIndex}
use Rattle.am_merge.specs.declared.entry.BucketEntry.{BucketEntry}
use Rattle.am_merge.proofs.Keys.{all_weaker}
use Rattle.am_merge.proofs.Built.{made_index, made_keys}
use Rattle.am_merge.proofs.bulk.build.Goals as goal

pub entries_of-requires : goal.entries_of-requires
entries_of-requires g c =
    let es = entries c.args.store.keys in
    let table = c.args.store.table in
    All-from_recursion (λ e. HasSlot table e.slot) es (all_weaker (Names key_slot (key_entry g.V.Version.seen g.V.Version.head_of) (get table)) (λ e. HasSlot table e.slot) (λ e name. (name.value, name.there)) es c.requires.index.index.sound)

pub build_buckets-requires-clause-index : goal.build_buckets-requires-clause-index
build_buckets-requires-clause-index g c =
    subst (IsIndex bucket_slot (bucket_entry g.V.Version.seen g.V.Version.bucket_of g.V.Version.head_of) (get c.args.store.table)) (sym c.in_ok-list.ensures)
    (made_index g.V.Version.seen g.V.Version.head_of g.V.Version.bucket_of (get c.args.store.table) (entries c.args.store.keys) c.requires.index.index)

pub build_buckets-requires-clause-keys : goal.build_buckets-requires-clause-keys
build_buckets-requires-clause-keys g c =
    subst (IsKeyIndex g.V.Version.seen g.V.Version.head_of g.V.Key.Ord.cmp (get c.args.store.table))
    (sym (made_keys g.V.Version.seen g.V.Version.head_of g.V.Version.bucket_of (get c.args.store.table) (entries c.args.store.keys) c.requires.index.index.sound) ∙ ap (map (λ (e : BucketEntry). e.key)) (sym c.in_ok-list.ensures))
    c.requires.index
