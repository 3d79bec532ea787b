use Rattle.std.proofs.Common.{refl}
use Rattle.am_server.proofs.Calls.{call_answered}
use Rattle.am_daemon.proofs.Answering.{answered_between}
use Rattle.am_daemon.proofs.Sending.{passed_between, still_on}
use Rattle.am_daemon.proofs.member.server_state.ServerState.judge.Goals as goal

pub returns-then-is_call-clause-answered : goal.returns-then-is_call-clause-answered
returns-then-is_call-clause-answered g c =
    call_answered _ _ _ _ _ (c.is_call.ensures c.if-is_call.true) c.answer_call.ensures.steps c.answer_call.ensures.closes c.answer_call.ensures.gone c.answer_call.ensures.given

pub returns-then-not-refuses-clause-answered : goal.returns-then-not-refuses-clause-answered
returns-then-not-refuses-clause-answered g c = answered_between _ _ _ _ _ _ _ _ (c.if-not-refuses.ensures.heard (λ is. cc)) refl refl c.begin_judging.ensures.answered

pub returns-then-not-refuses-clause-sent : goal.returns-then-not-refuses-clause-sent
returns-then-not-refuses-clause-sent g c = passed_between _ _ _ _ _ _ _ _ refl refl c.if-not-refuses.ensures.stays refl c.begin_judging.ensures.sent

pub returns-else-not-refuses-clause-sent : goal.returns-else-not-refuses-clause-sent
returns-else-not-refuses-clause-sent g c = still_on _ _ _ _ refl c.if-not-refuses.ensures.stays
