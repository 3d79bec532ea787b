use Rattle.slab.specs.Slab.{get}
use Rattle.am_merge.specs.Rows.{entries}
use Rattle.am_merge.proofs.Keys.{key_order as order_of_keys}
use Rattle.am_merge.proofs.Buckets.{front_rising, front_missed, front_never_met}
use Rattle.am_merge.proofs.store.bucket_front.Goals as goal

pub search_by-requires : goal.search_by-requires
search_by-requires g c =
    front_rising g.V.Version.seen g.V.Version.head_of g.V.Key.Ord.cmp (order_of_keys g.met.V.Key.Ord.total g.met.V.Version.exact_keys) g.V.Version.bucket_of (get c.args.store.now.table) c.args.bucket.now c.bucket_number-number.result c.bucket_number-number.ensures (entries c.args.store.now.buckets) c.requires

pub unreachable-requires : goal.unreachable-requires
unreachable-requires g c =
    front_never_met g.V.Version.seen g.V.Version.head_of g.V.Key.Ord.cmp (order_of_keys g.met.V.Key.Ord.total g.met.V.Version.exact_keys) g.V.Version.bucket_of (get c.args.store.now.table) c.args.bucket.now c.bucket_number-number.result c.bucket_number-number.ensures c.args.store.now.buckets c.in-Ok.field-0 c.in-Ok.ensures.found

pub returns-clause-gap : goal.returns-clause-gap
returns-clause-gap g c =
    front_missed g.V.Version.seen g.V.Version.head_of g.V.Key.Ord.cmp (order_of_keys g.met.V.Key.Ord.total g.met.V.Version.exact_keys) g.V.Version.bucket_of (get c.args.store.now.table) c.args.bucket.now c.bucket_number-number.result c.bucket_number-number.ensures c.args.store.now.buckets c.in-Err.cursor c.requires c.in-Err.ensures.missing
