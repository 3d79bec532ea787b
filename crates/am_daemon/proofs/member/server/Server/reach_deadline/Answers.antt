use Rattle.std.proofs.Common.{refl}
use Rattle.am_daemon.proofs.Sending.{passed_between}
use Rattle.am_daemon.proofs.member.server.Server.reach_deadline.Goals as goal

pub returns-clause-sent : goal.returns-clause-sent
returns-clause-sent g c = passed_between _ _ _ _ _ _ _ _ refl refl c.tell_missed.ensures refl c.resume_in_turn.ensures.sent
