use Rattle.am_daemon.proofs.Sending.{outlets_are}
use Rattle.am_daemon.proofs.member.server_state.ServerState.note_frames.Goals as goal

pub returns-in-Some : goal.returns-in-Some
returns-in-Some g c = outlets_are _ _ _ _ _ c.count.ensures.store c.count.ensures.outbound
