use Rattle.am_alertmanager.specs.VersionFilters.{Passes, Withholds}
use Rattle.am_alertmanager.proofs.Sifted.{IsSifting}
use Rattle.am_alertmanager.proofs.sifting.sift.Given as goal

abbrev pub invariant-loop-version : goal.invariant-loop-version
invariant-loop-version g l =
    IsSifting (Passes g.V.Version.seen g.V.Key.Ord.cmp g.V.Candidate.is_hazard l.filter) (Withholds g.V.Version.seen g.V.Key.Ord.cmp g.V.Candidate.is_hazard l.filter)
    g.V.Version.seen l.fn.versions l.version-iterator l.row.items l.fn.tally l.tally
