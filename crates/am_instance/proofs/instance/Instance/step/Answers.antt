use Rattle.std.proofs.Common.{sym, subst, ◌∙◌}
use Rattle.std.proofs.lemmas.Result.{err_from_is_err_and}
use Rattle.am_instance.specs.InstanceStates.{InstanceState}
use Rattle.am_instance.specs.Laws.{HasMaps}
use Rattle.am_instance.specs.OneStep.{IsStep}
use Rattle.am_instance.proofs.Stepping.{unadmitted_step, refused_step, counted_step}
use Rattle.am_instance.proofs.instance.Instance.step.Goals as goal

pub returns-in_err-admit : goal.returns-in_err-admit
returns-in_err-admit c =
    let p = err_from_is_err_and c.from_residual.result c.from_residual.ensures.1 in
    rw (p.1, p.2) (unadmitted_step c.args.self.now c.args.event c.args.now _ c.in_err-admit.ensures.refused)

pub returns-then-counts : goal.returns-then-counts
returns-then-counts c =
    subst (λ (s : InstanceState). IsStep c.args.self.now c.args.event c.args.now c.work-answer.result (record s { last = c.args.now })) (sym c.self.view_is)
    (counted_step c.args.self.now c.work-answer.new.self c.args.event c.args.now c.work-answer.result c.in_ok-admit.ensures.admitted c.work-answer.ensures
    (sym c.counts.ensures ∙ c.if-counts.true) (subst HasMaps c.self.view_is (record { silences = c.has_values.ensures.order; log = c.has_values-2.ensures.order })))

pub returns-else-counts : goal.returns-else-counts
returns-else-counts c = refused_step c.args.self.now c.work-answer.new.self c.args.event c.args.now c.work-answer.result c.in_ok-admit.ensures.admitted c.work-answer.ensures (sym c.counts.ensures ∙ c.if-counts.false)
