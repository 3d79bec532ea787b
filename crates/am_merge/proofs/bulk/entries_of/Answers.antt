use Rattle.std.proofs.Common.{◌≡◌, ap, sym, ◌∙◌, subst, filter_map}
use Rattle.std.specs.List.{AllByRecursion}
use Rattle.std.proofs.lemmas.List.Elements.{recursion_from_All}
use Rattle.slab.specs.Slab.{get}
use Rattle.am_merge.specs.Rows.{entries}
use Rattle.am_merge.specs.Stores.{HasSlot}
use Rattle.am_merge.specs.Buckets.{bucket_at}
use Rattle.am_merge.proofs.bulk.entries_of.Goals as goal

pub loop-key-init : goal.loop-key-init
loop-key-init g c =
    let all : c.into_iter-key-iterator.result ≡ entries c.args.keys.now = c.into_iter-key-iterator.ensures.into_iter_gives ∙ c.walk-key-items.ensures in
    record {
      all = rw c.in_ok-list.ensures.items (ap (filter_map (bucket_at g.V.Version.bucket_of (get c.args.table.now))) all);
      there = subst (AllByRecursion (λ e. HasSlot c.args.table.now e.slot)) (sym all) (recursion_from_All (λ e. HasSlot c.args.table.now e.slot) (entries c.args.keys.now) c.requires);
    }
