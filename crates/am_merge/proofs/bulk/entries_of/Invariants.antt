use Rattle.std.proofs.Common.{◌≡◌, ◌++◌, filter_map}
use Rattle.std.specs.List.{AllByRecursion}
use Rattle.slab.specs.Slab.{get}
use Rattle.am_merge.specs.Rows.{entries}
use Rattle.am_merge.specs.Stores.{HasSlot}
use Rattle.am_merge.specs.Buckets.{bucket_at}
use Rattle.am_merge.proofs.bulk.entries_of.Given as goal

abbrev pub invariant-loop-key : goal.invariant-loop-key
invariant-loop-key g l =
    record {
      all : l.list.items ++ filter_map (bucket_at g.V.Version.bucket_of (get l.fn.table)) l.key-iterator ≡ filter_map (bucket_at g.V.Version.bucket_of (get l.fn.table)) (entries l.fn.keys);
      there : AllByRecursion (λ e. HasSlot l.fn.table e.slot) l.key-iterator;
    }
