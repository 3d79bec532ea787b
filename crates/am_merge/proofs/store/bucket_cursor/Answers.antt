use Rattle.std.proofs.Common.{refl}
use Rattle.slab.specs.Slab.{get}
use Rattle.am_merge.proofs.Keys.{key_order as order_of_keys}
use Rattle.am_merge.proofs.Buckets.{bucket_never_missed, bucket_met_own}
use Rattle.am_merge.proofs.store.bucket_cursor.Goals as goal

pub unreachable-requires : goal.unreachable-requires
unreachable-requires g c =
    bucket_never_missed g.V.Version.seen g.V.Version.head_of g.V.Key.Ord.cmp (order_of_keys g.met.V.Key.Ord.total g.met.V.Version.exact_keys) g.V.Version.bucket_of g.met.V.Version.heads (get c.args.store.now.table) c.args.slot c.index.result.now c.index.ensures _ _ refl refl c.args.store.now.buckets c.in-Err.field-0 c.requires.index c.in-Err.ensures.missing

pub returns-clause-own : goal.returns-clause-own
returns-clause-own g c =
    bucket_met_own g.V.Version.seen g.V.Version.head_of g.V.Key.Ord.cmp (order_of_keys g.met.V.Key.Ord.total g.met.V.Version.exact_keys) g.V.Version.bucket_of g.met.V.Version.heads (get c.args.store.now.table) c.args.slot c.index.result.now c.index.ensures _ _ refl refl c.args.store.now.buckets c.in-Ok.cursor c.requires.index c.in-Ok.ensures.found
