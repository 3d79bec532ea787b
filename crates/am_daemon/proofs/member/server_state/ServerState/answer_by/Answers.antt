use Rattle.std.proofs.Common.{refl}
use Rattle.am_daemon.proofs.Answering.{answered_between}
use Rattle.am_daemon.proofs.Sending.{passed_between, still_on}
use Rattle.am_daemon.proofs.member.server_state.ServerState.answer_by.Goals as goal

pub returns-clause-answered : goal.returns-clause-answered
returns-clause-answered g c = answered_between _ _ _ _ _ _ _ _ (c.if-refuses.ensures.heard (λ is. cc)) c.swap_patterns-own.ensures.same c.swap_patterns.ensures.same c.answer.ensures.answered

pub returns-clause-sent : goal.returns-clause-sent
returns-clause-sent g c = passed_between _ _ _ _ _ _ _ _ c.swap_patterns-own.ensures.same c.swap_patterns.ensures.same c.if-refuses.ensures.stays refl c.answer.ensures.sent

pub returns-then-refuses-clause-sent : goal.returns-then-refuses-clause-sent
returns-then-refuses-clause-sent g c = still_on _ _ _ _ refl c.if-refuses.ensures.stays
