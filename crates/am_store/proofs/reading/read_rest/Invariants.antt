use Rattle.am_merge.specs.Maps.{IsMap}
use Rattle.am_store.proofs.Taken.{HasKept}
use Rattle.am_store.proofs.reading.read_rest.Given as goal

abbrev pub invariant-blocks-2 : goal.invariant-blocks-2
invariant-blocks-2 g l =
    HasKept g.V.Version.seen (g.V.Message.reads l.fn.unknown) (g.R.Read.remaining l.fn.reader) l.fn.builder (g.R.Read.remaining l.reader) l.builder
    × IsMap g.V.Version.seen g.V.Key.Ord.cmp l.builder
