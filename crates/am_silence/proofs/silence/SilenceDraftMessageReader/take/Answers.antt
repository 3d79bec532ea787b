use Rattle.am_wire.proofs.Picked.{goes_here, goes_past, part_here, part_past, items_past}
use Rattle.am_silence.proofs.FirstComments.{comment_past}
use Rattle.am_silence.proofs.silence.SilenceDraftMessageReader.take.Goals as goal

pub returns-in_ok-take-in-1-clause-held : goal.returns-in_ok-take-in-1-clause-held
returns-in_ok-take-in-1-clause-held c = λ es h. let put = c.in_ok-take-in-1.ensures.held in search (goes_here, goes_past, part_past, items_past, comment_past)

pub returns-in_ok-take-in-3-clause-held : goal.returns-in_ok-take-in-3-clause-held
returns-in_ok-take-in-3-clause-held c = λ es h. search (goes_past, part_past, items_past, comment_past, part_here, c.in_ok-take-in-3.ensures.held, c.in_ok-take-in-3.ensures.at, c.in_ok-take-in-3.ensures.given)

pub returns-in_ok-take-in-4-clause-held : goal.returns-in_ok-take-in-4-clause-held
returns-in_ok-take-in-4-clause-held c = λ es h. search (goes_past, part_past, items_past, comment_past, part_here, c.in_ok-take-in-4.ensures.held, c.in_ok-take-in-4.ensures.at, c.in_ok-take-in-4.ensures.given)

pub returns-in_ok-take-in-5-clause-held : goal.returns-in_ok-take-in-5-clause-held
returns-in_ok-take-in-5-clause-held c = λ es h. search (goes_past, part_past, items_past, comment_past, part_here, c.in_ok-take-in-5.ensures.held, c.in_ok-take-in-5.ensures.at, c.in_ok-take-in-5.ensures.given)

pub returns-in_ok-take-in-8-clause-held : goal.returns-in_ok-take-in-8-clause-held
returns-in_ok-take-in-8-clause-held c = λ es h. let put = c.in_ok-take-in-8.ensures.held in search (goes_here, goes_past, part_past, items_past, comment_past)

pub returns-in_ok-take-in-9-clause-held : goal.returns-in_ok-take-in-9-clause-held
returns-in_ok-take-in-9-clause-held c = λ es h. let put = c.in_ok-take-in-9.ensures.held in search (goes_here, goes_past, part_past, items_past, comment_past)
