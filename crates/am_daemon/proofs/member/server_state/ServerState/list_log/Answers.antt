use Rattle.am_server.proofs.Calls.{own_replied}
use Rattle.am_server.proofs.Sayings.{told_own}
use Rattle.am_server.specs.Talks.OwnCause.{OutOfMemory}
use Rattle.am_daemon.proofs.member.server_state.ServerState.list_log.Goals as goal

pub returns-in-Err : goal.returns-in-Err
returns-in-Err g c = λ request asked. own_replied request _ _ _ (told_own OutOfMemory _ c.in-Err.ensures.refused)
