use Rattle.std.proofs.Common.{◌≡◌, ◌++◌}
use Rattle.std.specs.Vec.Iter.{into_iter_items}
use Rattle.am_merge.specs.Stores.{versions, IsStore}
use Rattle.am_merge.proofs.changes.from_sorted.Given as goal

abbrev pub invariant-loop-version : goal.invariant-loop-version
invariant-loop-version g l =
    record {
      store : IsStore g.V.Version.seen g.V.Version.head_of g.V.Key.Ord.cmp g.V.Version.bucket_of l.store;
      all : versions l.store ++ into_iter_items l.version-iterator ≡ l.fn.sorted.items;
    }
