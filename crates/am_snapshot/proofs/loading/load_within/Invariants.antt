use Rattle.std.proofs.Common.{◌-◌, ℕ, List}
use Rattle.std.specs.Prelude.{IsPermutation}
use Rattle.am_merge.specs.Maps.{IsMap}
use Rattle.am_snapshot.specs.Loads.{AreDistinct}
use Rattle.am_snapshot.proofs.RowReads.{ReadsSoFar, offset}
use Rattle.am_snapshot.proofs.loading.load_within.Given as goal

abbrev pub invariant-loop-rows : goal.invariant-loop-rows
invariant-loop-rows g l =
    (bytes : List ℕ) × (versions : List g.row.V.Denot)
    × ReadsSoFar (g.V.Message.reads l.unknown) l.limit (g.R.Read.remaining l.fn.reader) (g.R.Read.remaining l.reader) l.rows bytes versions
    × IsMap g.V.Version.seen g.V.Key.Ord.cmp l.builder
    × IsPermutation versions l.builder
    × AreDistinct g.V.Version.seen versions

abbrev pub decreases-loop-rows : goal.decreases-loop-rows
decreases-loop-rows g l = l.limit - offset l.rows
