use Rattle.std.proofs.Common.{◌≡◌, drop}
use Rattle.std.specs.Option.{option_copied}
use Rattle.am_runs.specs.Tests.{top_among}
use Rattle.am_runs.proofs.calm.top_among.Given as goal

abbrev pub invariant-loop-version : goal.invariant-loop-version
invariant-loop-version g l =
    let among = top_among g.V.Version.seen g.V.Key.Ord.cmp l.key in
    among (option_copied l.top) (drop l.version-index l.versions) ≡ among (option_copied l.fn.top) l.versions
