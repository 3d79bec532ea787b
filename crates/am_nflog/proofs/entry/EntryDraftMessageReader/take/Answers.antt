use Rattle.am_wire.proofs.Picked.{goes_here, goes_past, part_here, part_past}
use Rattle.am_nflog.proofs.Lists.{list_past}
use Rattle.am_nflog.proofs.entry.EntryDraftMessageReader.take.Goals as goal

pub returns-in-1-clause-held : goal.returns-in-1-clause-held
returns-in-1-clause-held c = λ es h. let put = c.take.ensures in search (goes_here, goes_past, part_past, list_past)

pub returns-in_ok-take-in-2-clause-held : goal.returns-in_ok-take-in-2-clause-held
returns-in_ok-take-in-2-clause-held c = λ es h. search (goes_past, part_past, part_here, list_past, c.in_ok-take-in-2.ensures.held, c.in_ok-take-in-2.ensures.at, c.in_ok-take-in-2.ensures.given)

pub returns-in-3-clause-held : goal.returns-in-3-clause-held
returns-in-3-clause-held c = λ es h. let put = c.take-in-3.ensures in search (goes_here, goes_past, part_past, list_past)

pub returns-in-4-clause-held : goal.returns-in-4-clause-held
returns-in-4-clause-held c = λ es h. let put = c.take-in-4.ensures.value in search (goes_here, goes_past, part_past, list_past)

pub returns-in_ok-take-in-5-clause-held : goal.returns-in_ok-take-in-5-clause-held
returns-in_ok-take-in-5-clause-held c = λ es h. search (goes_past, part_past, part_here, list_past, c.in_ok-take-in-5.ensures.held, c.in_ok-take-in-5.ensures.at, c.in_ok-take-in-5.ensures.given)
