use Rattle.std.proofs.Common.{ℕ, List, Option}
use Rattle.am_alertmanager.specs.Reading.{IsReadFrom}
use Rattle.am_alertmanager.proofs.reading.read_some.Given as goal

abbrev pub invariant-loop : goal.invariant-loop
invariant-loop g l = (start : Option (List ℕ)) → IsReadFrom (g.V.Message.reads l.unknown) g.V.Version.seen g.V.Key.Ord.cmp start (g.R.Read.remaining l.fn.reader) l.fn.rows l.fn.held
    → IsReadFrom (g.V.Message.reads l.unknown) g.V.Version.seen g.V.Key.Ord.cmp start (g.R.Read.remaining l.reader) l.rows l.held
