use Rattle.slab.specs.Slab.{get}
use Rattle.am_merge.specs.Rows.{entries}
use Rattle.am_merge.proofs.Keys.{key_order as order_of_keys}
use Rattle.am_merge.proofs.Buckets.{bucket_rising}
use Rattle.am_merge.proofs.store.search_bucket.Goals as goal

pub search_near-requires : goal.search_near-requires
search_near-requires g c =
    bucket_rising g.V.Version.seen g.V.Version.head_of g.V.Key.Ord.cmp (order_of_keys g.met.V.Key.Ord.total g.met.V.Version.exact_keys) g.V.Version.bucket_of (get c.args.store.now.table) c.bucket-bucket.result.now c.bucket_number.result c.bucket_number.ensures g.met.V.Version.heads c.key-key.result.now c.head.result c.head.ensures (entries c.args.store.now.buckets) c.requires

pub search_by-requires : goal.search_by-requires
search_by-requires g c =
    bucket_rising g.V.Version.seen g.V.Version.head_of g.V.Key.Ord.cmp (order_of_keys g.met.V.Key.Ord.total g.met.V.Version.exact_keys) g.V.Version.bucket_of (get c.args.store.now.table) c.bucket-bucket.result.now c.bucket_number.result c.bucket_number.ensures g.met.V.Version.heads c.key-key.result.now c.head.result c.head.ensures (entries c.args.store.now.buckets) c.requires
