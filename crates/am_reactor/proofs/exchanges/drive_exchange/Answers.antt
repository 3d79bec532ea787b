use Rattle.std.proofs.Common.{◌∙◌, ap, Ok}
use Rattle.am_reactor.proofs.Drives.{driven_lost, driven_none, driven_on, driven_told}
use Rattle.am_reactor.proofs.exchanges.drive_exchange.Goals as goal

pub returns-then-not-is_open-clause-heard : goal.returns-then-not-is_open-clause-heard
returns-then-not-is_open-clause-heard g c = driven_none _ _ _ _ _ _ _ _ _ (c.is_open.ensures.none (cc)) (c.is_open.ensures.none (cc))

pub returns-in-Ok-Going-Idle-clause-heard : goal.returns-in-Ok-Going-Idle-clause-heard
returns-in-Ok-Going-Idle-clause-heard g c = driven_on _ _ _ _ _ _ _ _ _ (c.is_open.ensures.open (cc)) c.advance.ensures.open c.in-Ok-Going-Idle.ensures.went

pub returns-in-Ok-Going-Busy-clause-heard : goal.returns-in-Ok-Going-Busy-clause-heard
returns-in-Ok-Going-Busy-clause-heard g c = driven_on _ _ _ _ _ _ _ _ _ (c.is_open.ensures.open (cc)) c.advance.ensures.open c.in-Ok-Going-Busy.ensures.went

pub returns-in-Ok-Done-clause-heard : goal.returns-in-Ok-Done-clause-heard
returns-in-Ok-Done-clause-heard g c =
    let over = c.in-Ok-Done.is ∙ ap (λ x. Ok x) c.in-Ok-Done.field-0-is in
    driven_told _ _ _ _ _ _ _ _ _ _ _ (c.is_open.ensures.open (cc)) c.advance.ensures.open c.in-Ok-Done.ensures.went (c.advance.ensures.done over) (c.advance.ensures.ended over)
    c.deliver_answer.ensures.told c.deliver_answer.ensures.closed

pub returns-in-Err-clause-heard : goal.returns-in-Err-clause-heard
returns-in-Err-clause-heard g c =
    driven_lost _ _ _ _ _ _ _ _ _ _ _ _ (c.is_open.ensures.open (cc)) c.advance.ensures.open c.in-Err.ensures.failed c.lose.ensures.lost c.lose.ensures.closed
