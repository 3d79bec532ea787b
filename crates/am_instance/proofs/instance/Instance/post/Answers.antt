use Rattle.std.proofs.Common.{◌≡◌, ◌∙◌, None, subst, sym}
use Rattle.std.proofs.lemmas.Result.{err_from_is_err_and}
use Rattle.am_instance.specs.declared.event.Event.TheVariants as events
use Rattle.am_instance.specs.declared.event.Request.TheVariants as requests
use Rattle.am_silence.specs.Refusals.{unread_refusal}
use Rattle.am_instance.specs.Replies.{posted_over}
use Rattle.am_instance.specs.Steps.{IsWork}
use Rattle.am_instance.proofs.RequestWorks.{compiled_anyway, judged_anyway, post_done, post_refused, unread_is_told, unread_planned}
use Rattle.am_instance.proofs.Works.{stopped_work}
use Rattle.am_instance.proofs.instance.Instance.post.Goals as goal

pub returns-in-Some : goal.returns-in-Some
returns-in-Some c =
    post_refused c.args.self.now c.args.posted c.args.bits c.args.now c.in-Some.error c.refuse.result
    (unread_planned c.args.self.now c.args.posted c.args.bits c.args.now c.in-Some.error (sym c.in-Some.ensures)) c.refuse.ensures.refused c.refuse.ensures.memory
    (unread_is_told c.args.self.now c.args.posted c.args.bits c.args.now c.in-Some.error (sym c.in-Some.ensures))

pub returns-in_err-verdict : goal.returns-in_err-verdict
returns-in_err-verdict c =
    let p = err_from_is_err_and c.from_residual.result c.from_residual.ensures.1 in
    rw p.1 (stopped_work _ _ (events.Request (requests.Post c.args.posted c.args.bits)) c.args.now _ p.2 c.in_err-verdict.ensures.same
    (compiled_anyway c.args.self.now c.args.posted c.args.bits c.args.now c.in_err-verdict.ensures.memory (sym c.refused_unread.ensures ∙ c.in_default.is)))

pub returns-in-Ok : goal.returns-in-Ok
returns-in-Ok c =
    subst (λ old. IsWork old (events.Request (requests.Post c.args.posted c.args.bits)) c.args.now c.carry_out.result c.carry_out.new.self) c.in_ok-verdict.ensures.same
    (post_done _ c.carry_out.new.self c.args.posted c.args.bits c.args.now c.in-Ok.plan c.carry_out.result c.in-Ok.ensures.planned c.carry_out.ensures.done c.carry_out.ensures.err c.carry_out.ensures.unchanged (subst (λ stand. unread_refusal (posted_over c.args.now stand.silences c.args.posted.id) c.args.posted ≡ None) (sym c.in_ok-verdict.ensures.same) (sym c.refused_unread.ensures ∙ c.in_default.is)))

pub returns-in-Err : goal.returns-in-Err
returns-in-Err c =
    let read : unread_refusal (posted_over c.args.now c.judge.new.self.silences c.args.posted.id) c.args.posted ≡ None =
    subst (λ stand. unread_refusal (posted_over c.args.now stand.silences c.args.posted.id) c.args.posted ≡ None) (sym c.in_ok-verdict.ensures.same) (sym c.refused_unread.ensures ∙ c.in_default.is) in
    subst (λ old. IsWork old (events.Request (requests.Post c.args.posted c.args.bits)) c.args.now c.refuse-in-Err.result c.judge.new.self) c.in_ok-verdict.ensures.same
    (post_refused _ c.args.posted c.args.bits c.args.now c.in-Err.error c.refuse-in-Err.result c.in-Err.ensures.planned c.refuse-in-Err.ensures.refused c.refuse-in-Err.ensures.memory
    (λ memory. judged_anyway c.judge.new.self c.args.posted c.args.bits c.args.now c.in_ok-verdict.verdict c.in_ok-verdict.ensures.verdict read (c.in-Err.ensures.memory memory)))
