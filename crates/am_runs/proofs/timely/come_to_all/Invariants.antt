use Rattle.std.proofs.Common.{map, take}
use Rattle.std.specs.Prelude.{All}
use Rattle.am_runs.specs.Records.{step_of}
use Rattle.am_runs.specs.Tests.{ComesToAll}
use Rattle.am_runs.proofs.timely.come_to_all.Given as goal

abbrev pub invariant-loop-version : goal.invariant-loop-version
invariant-loop-version g l = All (ComesToAll g.V.Version.seen g.V.Key.Ord.cmp l.spread l.members (map step_of l.steps)) (take l.version-index l.versions)
