use Rattle.std.proofs.Common.{ap, refl, Ok}
use Rattle.am_reactor.proofs.Drives.{err_then, fails_whole, ok_then, on_err, step_asked, step_broken, step_heard}
use Rattle.am_reactor.proofs.Sends.{empties_none}
use Rattle.am_reactor.proofs.exchange.Exchange.advance.Goals as goal

pub returns-in_err-going-clause-failed : goal.returns-in_err-going-clause-failed
returns-in_err-going-clause-failed g c = on_err _ (fails_whole _ _ _ _ (step_asked _ _ _ c.connected.new.self _ c.connected.ensures.stream c.connected.ensures.buffer
    c.connected.ensures.answer c.send_on.ensures.out c.send_on.ensures.unread))

pub returns-in_err-connected-clause-failed : goal.returns-in_err-connected-clause-failed
returns-in_err-connected-clause-failed g c = on_err _ (fails_whole _ _ _ _ (step_asked _ _ _ c.connected.new.self _ c.connected.ensures.stream c.connected.ensures.buffer
    c.connected.ensures.answer (empties_none _ _) refl))

pub returns-in-Done-clause-went : goal.returns-in-Done-clause-went
returns-in-Done-clause-went g c = ok_then _ (step_heard _ _ _ c.connected.new.self _ c.send_on.new.stream c.connected.ensures.stream c.connected.ensures.buffer
    c.connected.ensures.answer c.send_on.ensures.out c.send_on.ensures.unread c.hear_on.ensures.gone (c.in_ok-going.ensures.done (ap (λ x. Ok x) c.in-Done.is))) c.hear_on.ensures.came

pub returns-in-Done-clause-failed : goal.returns-in-Done-clause-failed
returns-in-Done-clause-failed g c = err_then _ (step_broken _ _ _ c.connected.new.self _ c.send_on.new.stream c.connected.ensures.stream c.connected.ensures.buffer
    c.connected.ensures.answer c.send_on.ensures.out c.send_on.ensures.unread c.hear_on.ensures.gone (c.in_ok-going.ensures.done (ap (λ x. Ok x) c.in-Done.is))) c.hear_on.ensures.failed
