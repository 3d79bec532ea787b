use Rattle.std.proofs.Common.{refl}
use Rattle.slab.specs.Slab.{get}
use Rattle.am_merge.proofs.Keys.{key_order as order_of_keys}
use Rattle.am_merge.proofs.Buckets.{bucket_never_met, bucket_missed}
use Rattle.am_merge.proofs.store.bucket_gap.Goals as goal

pub unreachable-requires : goal.unreachable-requires
unreachable-requires g c =
    bucket_never_met g.V.Version.seen g.V.Version.head_of g.V.Key.Ord.cmp (order_of_keys g.met.V.Key.Ord.total g.met.V.Version.exact_keys) g.V.Version.bucket_of (get c.args.store.now.table) (g.V.Version.bucket_of c.args.version.now) _ refl g.met.V.Version.heads (g.V.Version.seen c.args.version.now).key _ refl c.args.store.now.buckets c.in-Ok.field-0 c.requires.absent c.requires.index c.in-Ok.ensures.found

pub returns-clause-gap : goal.returns-clause-gap
returns-clause-gap g c =
    bucket_missed g.V.Version.seen g.V.Version.head_of g.V.Key.Ord.cmp (order_of_keys g.met.V.Key.Ord.total g.met.V.Version.exact_keys) g.V.Version.bucket_of (get c.args.store.now.table) (g.V.Version.bucket_of c.args.version.now) _ refl g.met.V.Version.heads (g.V.Version.seen c.args.version.now).key _ refl c.args.store.now.buckets c.in-Err.cursor c.requires.index c.in-Err.ensures.missing
