use Rattle.am_reactor.proofs.Sends.{goes_once}
use Rattle.am_reactor.proofs.writing.write_some.Goals as goal

pub returns-in-Part-clause-out : goal.returns-in-Part-clause-out
returns-in-Part-clause-out g c =
    goes_once c.in-Part.count _ _ _ _ _ c.output.ensures.first_part c.in-Part.ensures.within c.in-Part.ensures.out c.sent.ensures.rest
