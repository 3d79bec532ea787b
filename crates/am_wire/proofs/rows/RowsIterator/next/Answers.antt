use Rattle.std.proofs.Common.{sym, ◌∙◌}
use Rattle.am_wire.specs.Fields.{row_at}
use Rattle.am_wire.specs.RoundTrip.Pieces.{pieces-first}
use Rattle.am_wire.proofs.Items.{pieces-fault, pieces-nil, rest_is, shorter}
use Rattle.am_wire.proofs.rows.RowsIterator.next.Goals as goal

pub returns-then-is_empty-clause-steps : goal.returns-then-is_empty-clause-steps
returns-then-is_empty-clause-steps c =
    let e = sym c.self.view_is ∙ pieces-nil row_at c.self.inside.at c.self.inside.rest.now c.if-is_empty.ensures in (e, e)

pub returns-in-Ok-clause-steps : goal.returns-in-Ok-clause-steps
returns-in-Ok-clause-steps c =
    rw (rest_is c.in-Ok.len c.self.inside.rest.now) (sym c.self.view_is ∙ pieces-first row_at c.self.inside.at c.self.inside.rest.now (c.in-Ok.message.now, c.in-Ok.len) (sym c.in-Ok.ensures.value) c.in-Ok.ensures.within.0 c.in-Ok.ensures.within.1)

pub returns-in-Ok-clause-goes : goal.returns-in-Ok-clause-goes
returns-in-Ok-clause-goes c =
    let e = returns-in-Ok-clause-steps c in
    record { on = λ _. (tt, tt, shorter _ _ _ e); keeps = tt; rests = λ _. tt }

pub returns-in-Err-clause-steps : goal.returns-in-Err-clause-steps
returns-in-Err-clause-steps c =
    sym c.self.view_is ∙ pieces-fault row_at c.self.inside.at c.self.inside.rest.now c.in-Err.fault (sym c.in-Err.ensures.value) c.if-is_empty.ensures

pub returns-in-Err-clause-goes : goal.returns-in-Err-clause-goes
returns-in-Err-clause-goes c =
    let e = returns-in-Err-clause-steps c in
    record { on = λ _. (tt, tt, shorter _ _ _ e); keeps = tt; rests = λ _. tt }
