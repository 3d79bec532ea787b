use Rattle.std.proofs.Common.{refl}
use Rattle.am_daemon.proofs.Sending.{still_on}
use Rattle.am_daemon.proofs.member.server_state.ServerState.answer_in_line.Goals as goal

pub returns-then-is_long-clause-sent : goal.returns-then-is_long-clause-sent
returns-then-is_long-clause-sent g c = still_on _ _ _ _ refl refl
