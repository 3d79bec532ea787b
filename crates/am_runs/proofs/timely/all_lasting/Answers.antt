use Rattle.std.proofs.Common.{◌≤◌, ◌+◌, ◌∙◌, sym, subst, refl}
use Rattle.std.specs.Prelude.{All}
use Rattle.std.proofs.lemmas.Bool.{false≢true}
use Rattle.am_runs.specs.Records.{step_of}
use Rattle.am_runs.proofs.Loops.{delivered_one, delivered_done}
use Rattle.am_runs.proofs.timely.all_lasting.Goals as goal

pub returns-then-not-are_lasting : goal.returns-then-not-are_lasting
returns-then-not-are_lasting g c =
    let P = λ (v : g.row.V.Denot). ((g.V.Version.seen v).updated + c.args.spread) + c.args.flight ≤ (g.V.Version.seen v).expires in (
      λ t. absurd (false≢true t),
      λ all.
          absurd (false≢true (sym c.if-not-are_lasting.true ∙ c.are_lasting.ensures.1
          (subst (All P) (sym c.versions.ensures) (delivered_one step_of P c.args.steps.now c.loop-step.step-index c.step-item.result c.loop-step-test.true c.step-item.is all)))),
    )

pub returns : goal.returns
returns g c =
    let P = λ (v : g.row.V.Denot). ((g.V.Version.seen v).updated + c.args.spread) + c.args.flight ≤ (g.V.Version.seen v).expires in
    (λ t. delivered_done step_of P c.args.steps.now c.loop-step.step-index c.loop-step-test.false c.loop-step.invariant, λ all. refl)
