use Rattle.std.proofs.Common.{map}
use Rattle.am_runs.specs.Records.{step_of}
use Rattle.am_runs.proofs.run.Run.timely.Goals as goal

pub returns-clause-calm : goal.returns-clause-calm
returns-clause-calm g c =
    rw (← c.self.view_is)
    (λ t place. c.timely_runs_are_calm.ensures c.self.inside.members c.args.spread c.args.flight (map step_of c.self.inside.steps.items) c.is_some_time.ensures c.self.invariant.run
    (((rw c.deref.ensures.value at c.is_timely.ensures) c.self.invariant.run).0 t) place)
