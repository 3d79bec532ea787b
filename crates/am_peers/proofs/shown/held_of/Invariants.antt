use Rattle.std.proofs.Common.{◌≡◌, ◌++◌, List}
use Rattle.std.specs.Vec.Iter.{into_iter_items}
use Rattle.am_merge.specs.Maps.{IsMap, at}
use Rattle.am_snapshot.proofs.Bests.{IsBestAt}
use Rattle.am_peers.proofs.shown.held_of.Given as goal

abbrev pub invariant-loop-version : goal.invariant-loop-version
invariant-loop-version g l =
    (taken : List g.row.V.Denot) × (taken ++ into_iter_items l.version-iterator ≡ l.fn.list.items)
    × IsMap g.V.Version.seen g.V.Key.Ord.cmp l.held
    × ((key : g.row.V-Key.Denot) → IsBestAt g.V.Version.seen taken key (at g.V.Version.seen g.V.Key.Ord.cmp l.held key))
