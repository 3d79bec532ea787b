use Rattle.am_wire.proofs.Picked.{goes_here, goes_past}
use Rattle.am_gossip.proofs.payload.PartDraftMessageReader.take.Goals as goal

pub returns-in_ok-take-in-1-clause-held : goal.returns-in_ok-take-in-1-clause-held
returns-in_ok-take-in-1-clause-held c = λ es h. let put = c.in_ok-take-in-1.ensures.held in search (goes_here, goes_past)

pub returns-in-2-clause-held : goal.returns-in-2-clause-held
returns-in-2-clause-held c = λ es h. let put = c.take-in-2.ensures in search (goes_here, goes_past)
