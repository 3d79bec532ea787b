use Rattle.std.proofs.Common.{take, subst}
use Rattle.std.proofs.lemmas.List.{take_all}
use Rattle.am_merge.proofs.Keys.{key_order}
use Rattle.am_collect.specs.Keepers.{IsLeftBy, events_of}
use Rattle.am_collect.proofs.Runs.{IsLeftBy-more, shows}
use Rattle.am_collect.proofs.keeper.Keeper.run.Goals as goal

pub returns-in-Err-clause-shown : goal.returns-in-Err-clause-shown
returns-in-Err-clause-shown g c =
    shows g.V.Version.seen g.V.Key.Ord.cmp (key_order g.met.V.Key.Ord.total g.met.V.Version.exact_keys) c.args.self.now c.step_copy.new.self (events_of (take c.loop-place.place c.args.steps.now))
    (rw c.in-Err.ensures.err c.loop-place.invariant)

pub loop-place-preserved : goal.loop-place-preserved
loop-place-preserved g c =
    IsLeftBy-more g.V.Version.seen g.V.Key.Ord.cmp c.args.self.now c.loop-place.self c.step_copy.new.self c.args.steps.now c.loop-place.place c.index-steps-place.result c.loop-place-test.true c.index-steps-place.is c.loop-place.invariant c.in_default.ensures.left

pub returns-clause-shown : goal.returns-clause-shown
returns-clause-shown g c =
    shows g.V.Version.seen g.V.Key.Ord.cmp (key_order g.met.V.Key.Ord.total g.met.V.Version.exact_keys) c.args.self.now c.loop-place.self (events_of c.args.steps.now)
    (subst (λ steps. IsLeftBy g.V.Version.seen g.V.Key.Ord.cmp c.args.self.now (events_of steps) c.loop-place.self) (take_all c.loop-place.place c.args.steps.now c.loop-place-test.false) c.loop-place.invariant)
