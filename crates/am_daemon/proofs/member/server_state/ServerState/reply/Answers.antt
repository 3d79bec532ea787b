use Rattle.std.proofs.Common.{refl}
use Rattle.am_daemon.proofs.member.server_state.ServerState.reply.Goals as goal

pub returns-in-Some-clause-passed : goal.returns-in-Some-clause-passed
returns-in-Some-clause-passed g c = record { logged = c.follow.ensures.followed; queued = c.follow.ensures.queued; put_by = refl }

pub returns-in_default-clause-passed : goal.returns-in_default-clause-passed
returns-in_default-clause-passed g c = record { logged = c.follow.ensures.followed; queued = c.follow.ensures.queued; put_by = refl }
