use Rattle.am_server.specs.Calls.CallCause.{Stops}
use Rattle.am_daemon.proofs.Calling.{away_called}
use Rattle.std.proofs.Common.{refl}
use Rattle.am_daemon.proofs.Sending.{still_on}
use Rattle.am_daemon.proofs.member.server_state.ServerState.take_turn.Goals as goal

pub returns-then-self-clause-called : goal.returns-then-self-clause-called
returns-then-self-clause-called g c = away_called _ Stops _ _ _ c.refused_by_stop.ensures

pub returns-then-self-clause-sent : goal.returns-then-self-clause-sent
returns-then-self-clause-sent g c = still_on _ _ _ _ refl refl
