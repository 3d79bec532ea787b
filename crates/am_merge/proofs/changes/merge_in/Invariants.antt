use Rattle.std.proofs.Common.{◌≡◌, ◌+◌, ◌≤◌, length, take, drop, count_by}
use Rattle.am_merge.specs.Maps.{IsJoin, replaces}
use Rattle.am_merge.specs.Stores.{versions, IsStore}
use Rattle.am_merge.proofs.changes.merge_in.Given as goal

abbrev pub invariant-loop-version : goal.invariant-loop-version
invariant-loop-version g l =
    record {
      store : IsStore g.V.Version.seen g.V.Version.head_of g.V.Key.Ord.cmp g.V.Version.bucket_of l.store;
      rest : drop l.taken (versions l.other) ≡ l.version-iterator;
      within : l.taken + length l.version-iterator ≡ length (versions l.other);
      joined : IsJoin g.V.Version.seen g.V.Key.Ord.cmp (versions l.fn.store) (take l.taken (versions l.other)) (versions l.store);
      count : l.changed ≡ count_by (replaces g.V.Version.seen g.V.Key.Ord.cmp (versions l.fn.store)) (take l.taken (versions l.other));
      few : l.changed ≤ l.taken;
    }
