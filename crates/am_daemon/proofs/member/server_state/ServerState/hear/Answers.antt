use Rattle.std.proofs.Common.{refl}
use Rattle.am_server.proofs.Calls.{page_answered}
use Rattle.am_server.proofs.Steps.{nothing_made}
use Rattle.am_daemon.proofs.Sending.{outlets_are, still_on}
use Rattle.am_daemon.proofs.member.server_state.ServerState.hear.Goals as goal

pub returns-in-Some-clause-answered : goal.returns-in-Some-clause-answered
returns-in-Some-clause-answered g c = page_answered _ _ _ _ _ c.in-Some.ensures.elsewhere c.in-Some.ensures.owes (nothing_made _ _ _ refl) c.reply_about_member.ensures.closes c.reply_about_member.ensures.gone

pub returns-in-Some-clause-sent : goal.returns-in-Some-clause-sent
returns-in-Some-clause-sent g c = still_on _ _ _ _ refl (outlets_are _ _ _ _ _ c.count_said.ensures.0 c.count_said.ensures.1)
