use Rattle.std.proofs.Common.{List}
use Rattle.am_merge.specs.Maps.{IsMap, at}
use Rattle.am_snapshot.proofs.Bests.{IsBestAt}
use Rattle.am_snapshot.proofs.Rows.{HasRead}
use Rattle.am_store.proofs.reading.read_batch.Given as goal

abbrev pub invariant-loop-message : goal.invariant-loop-message
invariant-loop-message g l =
    (set : List g.row.V.Denot) × HasRead (g.V.Message.reads l.fn.unknown) l.batch l.fn.builder l.message-iterator set
    × IsMap g.V.Version.seen g.V.Key.Ord.cmp l.builder
    × ((key : g.row.V-Key.Denot) → IsBestAt g.V.Version.seen set key (at g.V.Version.seen g.V.Key.Ord.cmp l.builder key))
