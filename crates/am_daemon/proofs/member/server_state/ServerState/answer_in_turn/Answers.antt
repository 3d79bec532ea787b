use Rattle.std.proofs.Common.{refl}
use Rattle.am_daemon.proofs.Sending.{still_on}
use Rattle.am_daemon.proofs.member.server_state.ServerState.answer_in_turn.Goals as goal

pub returns-in-Ok-clause-sent : goal.returns-in-Ok-clause-sent
returns-in-Ok-clause-sent g c = still_on _ _ _ _ refl refl

pub returns-in-Err-clause-sent : goal.returns-in-Err-clause-sent
returns-in-Err-clause-sent g c = still_on _ _ _ _ refl refl
