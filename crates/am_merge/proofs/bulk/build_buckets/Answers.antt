use Rattle.std.proofs.Common.{sym, ◌∙◌, subst}
use Rattle.std.proofs.lemmas.Result.{IfOk-weaker}
use Rattle.std.proofs.lemmas.List.Sorted.{IsPermutation-trans}
use Rattle.slab.specs.Slab.{get}
use Rattle.am_merge.specs.Stores.{IsBucketIndex}
use Rattle.am_merge.proofs.Keys.{key_order as order_of_keys}
use Rattle.am_merge.proofs.Totals.{number_total, place_total}
use Rattle.am_merge.proofs.Filed.{buckets_filed}
use Rattle.am_merge.proofs.bulk.build_buckets.Goals as goal

pub sort-requires : goal.sort-requires
sort-requires g c = number_total

pub sort-requires-2 : goal.sort-requires-2
sort-requires-2 g c = place_total g.V.Version.seen g.met.V.Key.Ord.total (get c.args.table.now) g.V.Version.bucket_of

pub returns : goal.returns
returns g c =
    let index = buckets_filed g.V.Version.seen g.V.Version.head_of g.V.Key.Ord.cmp (order_of_keys g.met.V.Key.Ord.total g.met.V.Version.exact_keys) g.V.Version.bucket_of g.met.V.Version.heads
    (get c.args.table.now) c.args.list.items c.sort-2.new.items.items c.requires.index c.requires.keys
    (IsPermutation-trans c.args.list.items c.sort.new.items.items c.sort-2.new.items.items c.in_ok-sort.ensures.same c.in_ok-sort-2.ensures.same) c.in_ok-sort-2.ensures.sorted in
    IfOk-weaker c.from_slice.result _ _ (λ blocks same. subst (IsBucketIndex g.V.Version.seen g.V.Version.head_of g.V.Key.Ord.cmp g.V.Version.bucket_of (get c.args.table.now)) (sym (same ∙ c.as_slice.ensures.value)) index) c.from_slice.ensures
