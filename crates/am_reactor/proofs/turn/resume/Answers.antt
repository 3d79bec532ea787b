use Rattle.am_reactor.proofs.Peering.{loops_apart}
use Rattle.am_reactor.proofs.turn.resume.Goals as goal

pub returns-in-Some : goal.returns-in-Some
returns-in-Some g c first begun loops = c.visit.ensures first begun (loops_apart g.S.Service _ _ _ _ _ _ c.resume_first.ensures.led first begun loops)
