use Rattle.am_wire.specs.Reading.{delimited_in}
use Rattle.am_wire.proofs.Picked.{goes_here, goes_past, part_here, part_past}
use Rattle.am_silence.proofs.comment.CommentDraftMessageReader.take.Goals as goal

pub returns-in_ok-take-in-1-clause-held : goal.returns-in_ok-take-in-1-clause-held
returns-in_ok-take-in-1-clause-held c = λ es h. let put = c.in_ok-take-in-1.ensures.held in search (goes_here, goes_past, part_past)

pub returns-in_ok-take-in-2-clause-held : goal.returns-in_ok-take-in-2-clause-held
returns-in_ok-take-in-2-clause-held c = λ es h. search (goes_here delimited_in 2, goes_past, part_past, c.in_ok-take-in-2.ensures.held)

pub returns-in_ok-take-in-3-clause-held : goal.returns-in_ok-take-in-3-clause-held
returns-in_ok-take-in-3-clause-held c = λ es h. search (goes_past, part_here, c.in_ok-take-in-3.ensures.held, c.in_ok-take-in-3.ensures.at, c.in_ok-take-in-3.ensures.given)
