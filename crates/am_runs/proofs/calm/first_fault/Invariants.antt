use Rattle.std.proofs.Common.{map, take}
use Rattle.am_runs.specs.Records.{step_of}
use Rattle.am_runs.specs.Steps.{EachStep}
use Rattle.am_runs.specs.Tests.{StaysCalm}
use Rattle.am_runs.proofs.calm.first_fault.Given as goal

abbrev pub invariant-loop-place : goal.invariant-loop-place
invariant-loop-place g l = EachStep (take l.place l.steps) (λ before s. StaysCalm g.V.Version.seen g.V.Key.Ord.cmp l.member (map step_of before) (step_of s))
