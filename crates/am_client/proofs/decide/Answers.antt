use Rattle.std.proofs.Common.{subst}
use Rattle.am_cluster.specs.Questions.{asks as asking}
use Rattle.am_cluster.specs.Steps.{IsStepped}
use Rattle.am_client.proofs.OnReply.{on_reply}
use Rattle.am_client.proofs.decide.Goals as goal

pub returns : goal.returns
returns c = λ calm. on_reply c.step-reply.result _ (λ reply is replica question now asks.
    let old = c.args.cluster.now in
    let answered = subst (λ r. IsStepped old c.args.step.now c.args.line r c.step-reply.new.self) is c.step-reply.ensures in
    let said = c.answered_steps_reply.ensures old c.step-reply.new.self c.args.step.now now c.args.line c.args.place replica (asking question) reply asks answered in
    c.first_is_told_exactly.ensures c.args.place now question reply said.made replica asks.found (record { calm = c.calm-calm.ensures.calm.0 calm; past = said.past }) said.is)
