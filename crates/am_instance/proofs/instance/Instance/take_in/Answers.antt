use Rattle.std.proofs.Common.{◌≡◌, ap, subst, ◌∙◌}
use Rattle.std.specs.Prelude.{None}
use Rattle.std.proofs.lemmas.Result.{err_from_is_err_and}
use Rattle.am_instance.specs.Deliveries.{first_fault, rows_in}
use Rattle.am_instance.specs.InstanceStates.{InstanceState}
use Rattle.am_instance.specs.Steps.{IsJudgement}
use Rattle.am_instance.proofs.FrameWorks.{judged_arrival, stopped_arrival}
use Rattle.am_instance.proofs.instance.Instance.take_in.Goals as goal

pub returns-in_err-judge_parts : goal.returns-in_err-judge_parts
returns-in_err-judge_parts c =
    let p = err_from_is_err_and c.from_residual.result c.from_residual.ensures.1 in
    rw (p.1, p.2) (judged_arrival c.args.self.now c.args.sender c.args.parts.now c.args.now _ (subst (λ u. IsJudgement (first_fault (rows_in u c.args.parts.now)) c.in_err-judge_parts.field-0.0) (c.unknown.ensures ∙ ap (λ (s : InstanceState). s.config.unknown) c.self.view_is) c.in_err-judge_parts.ensures.fault))

pub returns-in-Ok : goal.returns-in-Ok
returns-in-Ok c =
    let sent = rw c.new-outbox.ensures at c.in-Ok.ensures.sent in
    (subst (λ u. first_fault (rows_in u c.args.parts.now) ≡ None) (c.unknown.ensures ∙ ap (λ (s : InstanceState). s.config.unknown) c.self.view_is) c.in_ok-judge_parts.ensures.sound, c.in-Ok.ensures.delivered, sent)

pub returns-in-Err : goal.returns-in-Err
returns-in-Err c = stopped_arrival c.args.self.now c.take_parts.new.self c.args.sender c.args.parts.now c.args.now c.take_parts.new.taken (subst (λ u. first_fault (rows_in u c.args.parts.now) ≡ None) (c.unknown.ensures ∙ ap (λ (s : InstanceState). s.config.unknown) c.self.view_is) c.in_ok-judge_parts.ensures.sound) c.in-Err.ensures.stopped
