use Rattle.std.proofs.Common.{refl}
use Rattle.am_daemon.proofs.Sending.{still_on}
use Rattle.am_daemon.proofs.member.server_state.ServerState.answer_late.Goals as goal

pub returns-then-self-clause-sent : goal.returns-then-self-clause-sent
returns-then-self-clause-sent g c = still_on _ _ _ _ refl refl
