use Rattle.std.proofs.Common.{◌∙◌, sym, subst, refl, map}
use Rattle.std.specs.Prelude.{All}
use Rattle.std.proofs.lemmas.Bool.{false≢true}
use Rattle.am_runs.specs.Records.{step_of}
use Rattle.am_runs.specs.Tests.{ComesToAll}
use Rattle.am_runs.proofs.Loops.{delivered_more, delivered_one, delivered_done}
use Rattle.am_runs.proofs.timely.all_come_to_all.Goals as goal

pub returns-then-not-come_to_all : goal.returns-then-not-come_to_all
returns-then-not-come_to_all g c =
    let P = ComesToAll g.V.Version.seen g.V.Key.Ord.cmp c.args.spread c.args.members (map step_of c.args.steps.now) in (
      λ t. absurd (false≢true t),
      λ all.
          absurd (false≢true (sym c.if-not-come_to_all.true ∙ c.come_to_all.ensures.1
          (subst (All P) (sym c.versions.ensures) (delivered_one step_of P c.args.steps.now c.loop-step.step-index c.step-item.result c.loop-step-test.true c.step-item.is all)))),
    )

pub loop-step-preserved : goal.loop-step-preserved
loop-step-preserved g c =
    let P = ComesToAll g.V.Version.seen g.V.Key.Ord.cmp c.args.spread c.args.members (map step_of c.args.steps.now) in
    delivered_more step_of P c.args.steps.now c.loop-step.step-index c.step-item.result c.loop-step-test.true c.step-item.is c.loop-step.invariant
    (subst (All P) c.versions.ensures (c.come_to_all.ensures.0 c.if-not-come_to_all.false))

pub returns : goal.returns
returns g c =
    let P = ComesToAll g.V.Version.seen g.V.Key.Ord.cmp c.args.spread c.args.members (map step_of c.args.steps.now) in
    (λ t. delivered_done step_of P c.args.steps.now c.loop-step.step-index c.loop-step-test.false c.loop-step.invariant, λ all. refl)
