use Rattle.am_daemon.proofs.Calling.{put_off_called}
use Rattle.std.proofs.Common.{refl}
use Rattle.am_daemon.proofs.Sending.{quiet_on, still_on}
use Rattle.am_daemon.proofs.member.server_state.ServerState.answer_unread.Goals as goal

pub returns-in-Some-clause-called : goal.returns-in-Some-clause-called
returns-in-Some-clause-called g c =
    put_off_called c.args.request _ c.args.instance.now c.wait_for_turn.result c.args.instance.now c.new.ensures.same c.wait_for_turn.ensures

pub returns-in-Some-clause-sent : goal.returns-in-Some-clause-sent
returns-in-Some-clause-sent g c = still_on _ _ _ _ refl refl

pub returns-in-None-clause-sent : goal.returns-in-None-clause-sent
returns-in-None-clause-sent g c = quiet_on _ _ _ _ c.begin_deciding.ensures.quiet

pub returns-in-Ok-Log-clause-sent : goal.returns-in-Ok-Log-clause-sent
returns-in-Ok-Log-clause-sent g c = still_on _ _ _ _ refl refl

pub returns-in-Ok-Alerts-clause-sent : goal.returns-in-Ok-Alerts-clause-sent
returns-in-Ok-Alerts-clause-sent g c = still_on _ _ _ _ refl refl

pub returns-in-Err-clause-sent : goal.returns-in-Err-clause-sent
returns-in-Err-clause-sent g c = still_on _ _ _ _ refl refl
