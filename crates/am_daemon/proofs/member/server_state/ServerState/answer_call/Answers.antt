use Rattle.std.proofs.Common.{refl}
use Rattle.am_daemon.proofs.Sending.{still_on}
use Rattle.am_daemon.proofs.member.server_state.ServerState.answer_call.Goals as goal

pub returns-in_default-clause-sent : goal.returns-in_default-clause-sent
returns-in_default-clause-sent g c = still_on _ _ _ _ refl refl
