use Rattle.std.proofs.Common.{map, sym, ◌∙◌, Some, None}
use Rattle.std.proofs.lemmas.Bool.{false≢true}
use Rattle.am_merge.proofs.Keys.{key_order}
use Rattle.am_runs.specs.Records.{step_of}
use Rattle.am_runs.specs.Tests.{StaysCalm}
use Rattle.am_runs.proofs.Cuts.{each_nil, each_take_more, each_all, each_map, first_at, first_map}
use Rattle.am_runs.proofs.Faults.{fault_told}
use Rattle.am_runs.proofs.calm.first_fault.Goals as goal

pub loop-place-init : goal.loop-place-init
loop-place-init g c = each_nil (λ before s. StaysCalm g.V.Version.seen g.V.Key.Ord.cmp c.args.member (map step_of before) (step_of s))

pub returns-then-not-stays_calm : goal.returns-then-not-stays_calm
returns-then-not-stays_calm g c = λ members run.
    fault_told g.V.Version.seen g.V.Key.Ord.cmp (key_order g.met.V.Key.Ord.total g.met.V.Version.exact_keys) members c.args.member
    (map step_of c.args.steps.now) (Some c.loop-place.place) run
    (first_map step_of (StaysCalm g.V.Version.seen g.V.Key.Ord.cmp c.args.member) c.args.steps.now c.loop-place.place
    (first_at _ c.args.steps.now c.loop-place.place c.index-steps-place.result c.loop-place-test.true c.index-steps-place.is c.loop-place.invariant
    (λ stays. false≢true (sym c.if-not-stays_calm.true ∙ c.stays_calm.ensures.1 stays))))

pub loop-place-preserved : goal.loop-place-preserved
loop-place-preserved g c =
    each_take_more _ c.args.steps.now c.loop-place.place c.index-steps-place.result c.loop-place-test.true c.index-steps-place.is c.loop-place.invariant
    (c.stays_calm.ensures.0 c.if-not-stays_calm.false)

pub returns : goal.returns
returns g c = λ members run.
    fault_told g.V.Version.seen g.V.Key.Ord.cmp (key_order g.met.V.Key.Ord.total g.met.V.Version.exact_keys) members c.args.member
    (map step_of c.args.steps.now) None run
    (each_map step_of (StaysCalm g.V.Version.seen g.V.Key.Ord.cmp c.args.member) c.args.steps.now
    (each_all _ c.args.steps.now c.loop-place.place c.loop-place-test.false c.loop-place.invariant))
