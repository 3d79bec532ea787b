use Rattle.am_server.specs.Calls.CallCause.{Stops}
use Rattle.am_daemon.proofs.Calling.{away_called}
use Rattle.std.proofs.Common.{refl}
use Rattle.am_daemon.proofs.Sending.{quiet_on, still_on}
use Rattle.am_daemon.proofs.member.server_state.ServerState.take_moment.Goals as goal

pub returns-in-Due-clause-called : goal.returns-in-Due-clause-called
returns-in-Due-clause-called g c = λ request came. away_called request Stops c.args.instance.now c.refused_by_stop.result c.args.instance.now c.refused_by_stop.ensures

pub returns-in-Due-clause-sent : goal.returns-in-Due-clause-sent
returns-in-Due-clause-sent g c = still_on _ _ _ _ refl refl

pub returns-in-Deciding-clause-sent : goal.returns-in-Deciding-clause-sent
returns-in-Deciding-clause-sent g c = quiet_on _ _ _ _ c.resume_decision.ensures.quiet

pub returns-in_default-clause-sent : goal.returns-in_default-clause-sent
returns-in_default-clause-sent g c = still_on _ _ _ _ refl refl
