use Rattle.am_reactor.proofs.Sends.{empties_nothing, empties_once}
use Rattle.am_reactor.proofs.send_buffer.SendBuffer.write_once.Goals as goal

pub returns-in_default-clause-out : goal.returns-in_default-clause-out
returns-in_default-clause-out g c = empties_nothing c.write_once-wrote.result _ _ _ _ c.in_default.not-Part c.write_once-wrote.ensures.out

pub returns-in-Part-clause-out : goal.returns-in-Part-clause-out
returns-in-Part-clause-out g c =
    rw (← c.self.view_is) (empties_once c.self.inside.bytes.items c.self.inside.written c.in-Part.count _ _
    (rw c.deref.ensures.value at c.in-Part.ensures.within) (rw c.deref.ensures.value at c.in-Part.ensures.out))
