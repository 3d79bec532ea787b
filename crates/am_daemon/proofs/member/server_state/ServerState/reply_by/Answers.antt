use Rattle.am_server.proofs.Sayings.{by_on}
use Rattle.am_daemon.proofs.member.server_state.ServerState.reply_by.Goals as goal

pub returns-then-has_changes-clause-says : goal.returns-then-has_changes-clause-says
returns-then-has_changes-clause-says g c = by_on _ _ _ _ c.reply_with.ensures.says c.hold_back.ensures.says
