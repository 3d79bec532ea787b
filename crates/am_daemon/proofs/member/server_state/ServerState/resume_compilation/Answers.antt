use Rattle.std.proofs.Common.{refl}
use Rattle.am_daemon.proofs.Sending.{passed_between, still_on}
use Rattle.am_daemon.proofs.member.server_state.ServerState.resume_compilation.Goals as goal

pub returns-in-Ok-true-clause-sent : goal.returns-in-Ok-true-clause-sent
returns-in-Ok-true-clause-sent g c = passed_between _ _ _ _ _ _ _ _ c.is_compiled.ensures.same refl c.is_compiled.ensures.stays refl c.answer_by.ensures.sent

pub returns-in-Ok-false-clause-sent : goal.returns-in-Ok-false-clause-sent
returns-in-Ok-false-clause-sent g c = still_on _ _ _ _ c.is_compiled.ensures.same c.is_compiled.ensures.stays

pub returns-in-Err-clause-sent : goal.returns-in-Err-clause-sent
returns-in-Err-clause-sent g c = still_on _ _ _ _ c.is_compiled.ensures.same c.is_compiled.ensures.stays
