use Rattle.std.proofs.Common.{◌-◌, ℕ, List}
use Rattle.am_merge.specs.Maps.{IsMap, at}
use Rattle.am_snapshot.proofs.Bests.{IsBestAt}
use Rattle.am_snapshot.proofs.RowReads.{ReadsSoFar, offset}
use Rattle.am_snapshot.proofs.reading.take_row_within.Given as goal

abbrev pub invariant-loop-rows : goal.invariant-loop-rows
invariant-loop-rows g l =
    (bytes : List ℕ) × (versions : List g.row.V.Denot)
    × ReadsSoFar (g.V.Message.reads l.unknown) l.limit (g.R.Read.remaining l.fn.reader) (g.R.Read.remaining l.reader) l.rows bytes versions
    × IsMap g.V.Version.seen g.V.Key.Ord.cmp l.builder
    × ((key : g.row.V-Key.Denot) → IsBestAt g.V.Version.seen versions key (at g.V.Version.seen g.V.Key.Ord.cmp l.builder key))

abbrev pub decreases-loop-rows : goal.decreases-loop-rows
decreases-loop-rows g l = l.limit - offset l.rows
