use Rattle.std.proofs.Common.{◌∙◌, ap, inl, refl, sym, not}
use Rattle.am_daemon.proofs.Answering.{no_name, nothing_taken}
use Rattle.am_daemon.proofs.Sending.{passed_between, still_on}
use Rattle.am_daemon.proofs.member.server_state.ServerState.answer.Goals as goal

pub returns-then-is_none-clause-answered : goal.returns-then-is_none-clause-answered
returns-then-is_none-clause-answered g c =
    inl (nothing_taken _ _ _ (c.is_nothing.ensures c.if-is_nothing.true) (sym c.name.ensures ∙ no_name c.name.result (c.is_none.ensures ∙ ap not c.if-is_none.true)))

pub returns-then-is_none-clause-sent : goal.returns-then-is_none-clause-sent
returns-then-is_none-clause-sent g c = still_on _ _ _ _ refl refl

pub returns-then-refuses_inner-clause-sent : goal.returns-then-refuses_inner-clause-sent
returns-then-refuses_inner-clause-sent g c = still_on _ _ _ _ refl c.if-refuses_inner.ensures.stays

pub returns-clause-sent : goal.returns-clause-sent
returns-clause-sent g c = passed_between _ _ _ _ _ _ _ _ refl refl c.if-refuses_inner.ensures.stays refl c.take_in.ensures.sent
