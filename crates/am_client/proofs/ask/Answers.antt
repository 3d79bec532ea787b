use Rattle.std.proofs.Common.{subst}
use Rattle.am_cluster.specs.Steps.{IsStepped}
use Rattle.am_client.proofs.OnReply.{on_reply}
use Rattle.am_client.proofs.ask.Goals as goal

pub returns : goal.returns
returns c = λ calm. on_reply c.step-reply.result _ (λ reply is replica event now asks shown.
    let old = c.args.cluster.now in
    let answered = subst (λ r. IsStepped old c.args.step.now c.args.line r c.step-reply.new.self) is c.step-reply.ensures in
    let said = c.answered_steps_reply.ensures old c.step-reply.new.self c.args.step.now now c.args.line c.args.place replica event reply asks answered in
    c.members_reply_as_the_bare_sets.ensures now event reply said.made replica asks.found (record { calm = c.calm-calm.ensures.calm.0 calm; past = said.past }) shown said.is)
