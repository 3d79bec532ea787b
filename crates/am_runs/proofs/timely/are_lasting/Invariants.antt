use Rattle.std.proofs.Common.{◌≤◌, ◌+◌, take}
use Rattle.std.specs.Prelude.{All}
use Rattle.am_runs.proofs.timely.are_lasting.Given as goal

abbrev pub invariant-loop-version : goal.invariant-loop-version
invariant-loop-version g l = All (λ v. ((g.V.Version.seen v).updated + l.spread) + l.flight ≤ (g.V.Version.seen v).expires) (take l.version-index l.versions)
