use Rattle.slab.specs.Slab.{get}
use Rattle.am_merge.specs.Rows.{entries}
use Rattle.am_merge.specs.Searches.{IsFound, IsMissing}
use Rattle.am_merge.specs.Entries.{key_order}
use Rattle.am_merge.specs.Stores.{IsKeyCursor, IsGapCursor}
use Rattle.am_merge.proofs.Keys.{key_order as order_of_keys}
use Rattle.am_merge.proofs.Stores.{key_rising, key_met, key_missed, if_ok, if_err}
use Rattle.am_merge.proofs.store.find.Goals as goal

pub search_near-requires : goal.search_near-requires
search_near-requires g c =
    key_rising g.V.Version.seen g.V.Version.head_of g.V.Key.Ord.cmp (order_of_keys g.met.V.Key.Ord.total g.met.V.Version.exact_keys) g.met.V.Version.heads (get c.args.store.now.table) c.args.key.now c.head.result c.head.ensures (entries c.args.store.now.keys) c.requires.index

pub returns-clause-found : goal.returns-clause-found
returns-clause-found g c =
    let order = key_order g.V.Version.seen g.V.Key.Ord.cmp (get c.args.store.now.table) c.head.result c.args.key.now in
    if_ok (IsFound order c.args.store.now.keys) (IsKeyCursor g.V.Version.seen g.V.Key.Ord.cmp c.args.store.now c.args.key.now)
    (λ cursor found. record { item = found.item; place = key_met g.V.Version.seen g.V.Version.head_of g.V.Key.Ord.cmp (order_of_keys g.met.V.Key.Ord.total g.met.V.Version.exact_keys) g.met.V.Version.heads (get c.args.store.now.table) c.args.key.now c.head.result c.head.ensures c.args.store.now.keys cursor c.requires.index found })
    c.search_near.result c.search_near.ensures.found

pub returns-clause-absent : goal.returns-clause-absent
returns-clause-absent g c =
    let order = key_order g.V.Version.seen g.V.Key.Ord.cmp (get c.args.store.now.table) c.head.result c.args.key.now in
    if_err (IsMissing order c.args.store.now.keys) (IsGapCursor g.V.Version.seen g.V.Key.Ord.cmp c.args.store.now c.args.key.now)
    (λ cursor missing. record { within = missing.within; gap = key_missed g.V.Version.seen g.V.Version.head_of g.V.Key.Ord.cmp (order_of_keys g.met.V.Key.Ord.total g.met.V.Version.exact_keys) g.met.V.Version.heads (get c.args.store.now.table) c.args.key.now c.head.result c.head.ensures c.args.store.now.keys cursor c.requires.index missing })
    c.search_near.result c.search_near.ensures.missing
