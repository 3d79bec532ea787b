use Rattle.std.proofs.Common.{subst}
use Rattle.am_cluster.specs.Steps.{IsStepped}
use Rattle.am_client.proofs.OnReply.{on_reply}
use Rattle.am_client.proofs.step_in_time.Goals as goal

pub returns-clause-agree : goal.returns-clause-agree
returns-clause-agree c = λ timely. on_reply c.step-reply.result _ (λ reply is now says.
    let old = c.args.cluster.now in
    let new = c.step-reply.new.self in
    let answered = subst (λ r. IsStepped old c.args.step.now c.args.line r new) is c.step-reply.ensures in
    let next = c.answered_steps_go_on.ensures old new c.args.step.now now c.args.line reply c.consistency.ensures says answered in
    let kept = c.timely-timely.ensures.exactly.0 timely in (
      c.members_agree_on_what_is_old.ensures.silences old new c.consistency.ensures c.consistency-2.ensures c.args.spread c.args.flight now c.timely-timely.ensures.some_time next.goes kept,
      c.members_agree_on_what_is_old.ensures.log old new c.consistency.ensures c.consistency-2.ensures c.args.spread c.args.flight now c.timely-timely.ensures.some_time next.goes kept,
    ))
