use Rattle.std.proofs.Common.{inr}
use Rattle.am_daemon.proofs.member.server.Server.tick.Goals as goal

pub returns-in-Some-clause-tick : goal.returns-in-Some-clause-tick
returns-in-Some-clause-tick g c = inr (c.in-Some.moment, c.tick.ensures.step.0, c.tick.ensures.step.1)
