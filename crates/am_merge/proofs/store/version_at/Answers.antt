use Rattle.std.proofs.Common.{sym}
use Rattle.std.proofs.lemmas.Option.{get_or_from_slice_get, slice_get_within}
use Rattle.slab.specs.Slab.{get}
use Rattle.am_merge.specs.Rows.{entries}
use Rattle.am_merge.specs.Cursors.{place}
use Rattle.am_merge.proofs.Keys.{key_order as order_of_keys}
use Rattle.am_merge.proofs.Stores.{key_named_at}
use Rattle.am_merge.proofs.store.version_at.Goals as goal

pub returns : goal.returns
returns g c =
    let es = entries c.args.store.now.keys in
    let i = place c.args.store.now.keys c.args.cursor in
    sym (key_named_at g.V.Version.seen g.V.Version.head_of g.V.Key.Ord.cmp (order_of_keys g.met.V.Key.Ord.total g.met.V.Version.exact_keys) (get c.args.store.now.table) es i c.get.result c.index.result.now c.requires.keyed.index (slice_get_within es i c.get.result c.get.ensures) (get_or_from_slice_get es i c.get.result c.get.result c.get.ensures) c.index.ensures)
