use Rattle.std.proofs.Common.{ap, ◌∙◌}
use Rattle.slab.specs.Slab.{get}
use Rattle.am_merge.specs.Rows.{entries}
use Rattle.am_merge.specs.Cursors.{place}
use Rattle.am_merge.specs.Buckets.{bucket_slot, run_of}
use Rattle.am_merge.specs.Indexes.{filed}
use Rattle.am_merge.proofs.Keys.{key_order}
use Rattle.am_merge.proofs.Walks.{walked_from}
use Rattle.am_merge.proofs.iter.walk_bucket.Goals as goal

pub returns : goal.returns
returns g c =
    ap (λ es. run_of g.V.Version.bucket_of c.args.bucket.now (filed bucket_slot (get c.args.store.now.table) es)) c.walk_from.ensures
    ∙ walked_from g.V.Version.seen g.V.Version.head_of g.V.Key.Ord.cmp (key_order g.met.V.Key.Ord.total g.met.V.Version.exact_keys) g.V.Version.bucket_of c.args.bucket.now (get c.args.store.now.table) (entries c.args.store.now.keys) (entries c.args.store.now.buckets) c.requires.keys c.requires.buckets (place c.args.store.now.buckets c.bucket_front-front.result) c.bucket_front-front.ensures.gap
