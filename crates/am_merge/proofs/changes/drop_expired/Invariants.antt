use Rattle.std.proofs.Common.{◌≡◌, ◌≤◌, length}
use Rattle.am_merge.specs.Maps.{swept}
use Rattle.am_merge.specs.Stores.{versions, IsStore}
use Rattle.am_merge.proofs.changes.drop_expired.Given as goal

abbrev pub invariant-loop-slot : goal.invariant-loop-slot
invariant-loop-slot g l =
    record {
      store : IsStore g.V.Version.seen g.V.Version.head_of g.V.Key.Ord.cmp g.V.Version.bucket_of l.store;
      swept : swept g.V.Version.seen l.now (versions l.store) ≡ swept g.V.Version.seen l.now (versions l.fn.store);
      shorter : length (versions l.store) ≤ length (versions l.fn.store);
    }

abbrev pub decreases-loop-slot : goal.decreases-loop-slot
decreases-loop-slot g l = length (versions l.store)
