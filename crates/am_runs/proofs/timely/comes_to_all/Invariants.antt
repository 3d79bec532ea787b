use Rattle.std.proofs.Common.{map}
use Rattle.am_runs.specs.Records.{step_of}
use Rattle.am_runs.specs.Tests.{ComesToAll}
use Rattle.am_runs.proofs.timely.comes_to_all.Given as goal

abbrev pub invariant-loop-member : goal.invariant-loop-member
invariant-loop-member g l = ComesToAll g.V.Version.seen g.V.Key.Ord.cmp l.spread l.member (map step_of l.steps) l.version
