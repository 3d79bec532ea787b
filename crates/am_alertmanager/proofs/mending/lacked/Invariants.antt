use Rattle.std.proofs.Common.{◌≡◌, ◌++◌, map}
use Rattle.am_alertmanager.specs.Mending.{lacked, version_of}
use Rattle.am_alertmanager.proofs.mending.lacked.Given as goal

-- those before, and those among what is left
abbrev pub invariant-loop-version : goal.invariant-loop-version
invariant-loop-version g l = map version_of l.found.items ++ lacked g.V.Version.seen g.V.Key.Ord.cmp l.held l.version-iterator
    ≡ lacked g.V.Version.seen g.V.Key.Ord.cmp l.held l.all
