use Rattle.std.proofs.Common.{◌≡◌, map, take, true}
use Rattle.am_runs.specs.Records.{step_of}
use Rattle.am_runs.specs.Steps.{EachStep}
use Rattle.am_runs.specs.Tests.{comes_in_time}
use Rattle.am_runs.proofs.calm.come_in_time.Given as goal

abbrev pub invariant-loop-place : goal.invariant-loop-place
invariant-loop-place g l = EachStep (take l.place l.versions) (λ done v. comes_in_time g.V.Version.seen g.V.Key.Ord.cmp l.member (map step_of l.before) l.now done v ≡ true)
