use Rattle.am_wire.proofs.Picked.{part_here, part_past}
use Rattle.am_wire.proofs.expiring.ExpiringDraftMessageReader.take.Goals as goal

pub returns-in_ok-take-in-1-clause-held : goal.returns-in_ok-take-in-1-clause-held
returns-in_ok-take-in-1-clause-held g c = λ es h. search (part_past, part_here, c.in_ok-take-in-1.ensures.held, c.in_ok-take-in-1.ensures.at, c.in_ok-take-in-1.ensures.given)

pub returns-in_ok-take-in-2-clause-held : goal.returns-in_ok-take-in-2-clause-held
returns-in_ok-take-in-2-clause-held g c = λ es h. search (part_past, part_here, c.in_ok-take-in-2.ensures.held, c.in_ok-take-in-2.ensures.at, c.in_ok-take-in-2.ensures.given)
