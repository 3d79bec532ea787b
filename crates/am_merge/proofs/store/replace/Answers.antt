use Rattle.std.proofs.Common.{◌≡◌, true, sym, ap, ◌∙◌}
use Rattle.std.specs.Prelude.{bytes_eq}
use Rattle.std.proofs.lemmas.List.{get_or_default}
use Rattle.std.proofs.lemmas.Option.{get_or_from_slice_get}
use Rattle.std.proofs.lemmas.Slice.Eq.{bytes_eq-Decides}
use Rattle.slab.specs.Slab.{get}
use Rattle.am_merge.specs.Rows.{entries}
use Rattle.am_merge.specs.Cursors.{place}
use Rattle.am_merge.specs.Entries.{key_slot}
use Rattle.am_merge.specs.Stores.{versions}
use Rattle.am_merge.proofs.Keys.{key_order as order_of_keys}
use Rattle.am_merge.proofs.Stores.{item_within, version_here}
use Rattle.am_merge.proofs.store.replace.Goals as goal

pub replace_across-requires-clause-buckets : goal.replace_across-requires-clause-buckets
replace_across-requires-clause-buckets g c = c.requires.room.buckets (λ d same.
    let es = entries c.args.store.now.keys in
    let i = place c.args.store.now.keys c.args.cursor in
    let w = c.index.result.now in
    let here = version_here g.V.Version.seen g.V.Version.head_of g.V.Key.Ord.cmp (order_of_keys g.met.V.Key.Ord.total g.met.V.Version.exact_keys) (get c.args.store.now.table) (get c.args.store.now.table) es c.get-slot.result.slot w c.requires.store.keys i c.index.ensures (item_within c.args.store.now.keys c.args.cursor c.requires.cursor.item) (λ e. ap key_slot (get_or_from_slice_get es i c.get-slot.result e c.get-slot.ensures)) in
    let found = get_or_default (versions c.args.store.now) i d w c.requires.cursor.place.in_range ∙ here in
    let bucket = c.bucket.ensures ∙ ap g.V.Version.bucket_of (sym found) ∙ same ∙ sym c.bucket-2.ensures in
    let equal : bytes_eq c.bucket.result.now c.bucket-2.result.now ≡ true = (bytes_eq-Decides c.bucket.result.now c.bucket-2.result.now).1 bucket in
    let differs = c.if-eq.ensures in
    cc)
