use Rattle.std.proofs.Common.{◌≡◌, drop}
use Rattle.std.specs.List.{list_any}
use Rattle.am_runs.specs.Tests.{counts_for}
use Rattle.am_runs.proofs.timely.any_counts.Given as goal

abbrev pub invariant-loop-one : goal.invariant-loop-one
invariant-loop-one g l =
    let counts = counts_for g.V.Version.seen g.V.Key.Ord.cmp l.version in
    list_any counts (drop l.one-index l.taken) ≡ list_any counts l.taken
