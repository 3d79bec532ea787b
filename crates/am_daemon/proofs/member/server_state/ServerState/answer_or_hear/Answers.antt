use Rattle.am_daemon.proofs.Calling.{put_off_waits}
use Rattle.am_daemon.proofs.member.server_state.ServerState.answer_or_hear.Goals as goal

pub returns-in-Some-Some-clause-gives : goal.returns-in-Some-Some-clause-gives
returns-in-Some-Some-clause-gives g c = put_off_waits _ _ _ _ c.in-Some-Some.is-0 c.wait_for_exchanges.ensures.put_off
