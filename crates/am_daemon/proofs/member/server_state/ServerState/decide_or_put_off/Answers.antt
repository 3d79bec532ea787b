use Rattle.std.proofs.Common.{refl}
use Rattle.am_api_decisions.proofs.Same.{same_self}
use Rattle.am_daemon.proofs.member.server_state.ServerState.decide_or_put_off.Goals as goal

pub returns-else-matches-clause-quiet : goal.returns-else-matches-clause-quiet
returns-else-matches-clause-quiet g c = record { same = same_self _; stays = refl }
