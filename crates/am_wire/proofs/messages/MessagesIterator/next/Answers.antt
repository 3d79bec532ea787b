use Rattle.std.proofs.Common.{refl, sym, ◌∙◌}
use Rattle.am_wire.specs.Fields.{pieces}
use Rattle.am_wire.specs.Inputs.{message_at}
use Rattle.am_wire.specs.RoundTrip.Pieces.{pieces-first}
use Rattle.am_wire.proofs.Items.{pieces-fault, pieces-nil, pieces-filled, rest_is, shorter}
use Rattle.am_wire.proofs.messages.MessagesIterator.next.Goals as goal

pub returns-then-is_empty-clause-steps : goal.returns-then-is_empty-clause-steps
returns-then-is_empty-clause-steps g c =
    let e = sym c.self.view_is ∙ pieces-nil (message_at (g.V.Message.reads c.self.inside.unknown)) c.self.inside.at c.self.inside.rest.now c.if-is_empty.ensures in (e, e)

pub returns-in-Ok-clause-steps : goal.returns-in-Ok-clause-steps
returns-in-Ok-clause-steps g c =
    rw (rest_is c.in-Ok.len c.self.inside.rest.now) (sym c.self.view_is ∙ pieces-first (message_at (g.V.Message.reads c.self.inside.unknown)) c.self.inside.at c.self.inside.rest.now (c.in-Ok.message, c.in-Ok.len) c.in-Ok.ensures.value c.in-Ok.ensures.within.0 c.in-Ok.ensures.within.1)

pub returns-in-Ok-clause-goes : goal.returns-in-Ok-clause-goes
returns-in-Ok-clause-goes g c =
    let e = returns-in-Ok-clause-steps g c in
    record { on = λ _. (tt, tt, shorter _ _ _ e); keeps = tt; rests = λ _. tt }

pub returns-in-Err-clause-steps : goal.returns-in-Err-clause-steps
unfolding pieces
returns-in-Err-clause-steps g c =
    let some = pieces-filled (message_at (g.V.Message.reads c.self.inside.unknown)) c.self.inside.at c.self.inside.rest.now c.if-is_empty.ensures in
    (rw c.self.view_is at some, refl, λ fault. sym c.self.view_is ∙ pieces-fault (message_at (g.V.Message.reads c.self.inside.unknown)) c.self.inside.at c.self.inside.rest.now c.in-Err.fault (c.in-Err.ensures.value fault) c.if-is_empty.ensures)

pub returns-in-Err-clause-goes : goal.returns-in-Err-clause-goes
unfolding pieces
returns-in-Err-clause-goes g c =
    let steps = returns-in-Err-clause-steps g c in
    record { on = λ _. (tt, tt, steps.0); keeps = tt; rests = λ _. tt }
