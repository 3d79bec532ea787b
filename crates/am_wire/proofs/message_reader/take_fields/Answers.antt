use Rattle.std.proofs.lemmas.Result.{err_from_is_err_and}
use Rattle.am_wire.proofs.Taking.{Taken-start, Taken-step, Taken-fault, Taken-fails, Taken-end, Taken-clean}
use Rattle.am_wire.proofs.message_reader.take_fields.Goals as goal

pub loop-item-init : goal.loop-item-init
loop-item-init g c = rw (c.into_iter-item-iterator.ensures.into_iter_gives, c.within-item-items.ensures) (Taken-start _ _ _ _)

pub returns-in_err-item-clause-fault : goal.returns-in_err-item-clause-fault
returns-in_err-item-clause-fault g c =
    let is = rw c.in_err-item.was at c.in-Some.ensures.steps in
    let p = err_from_is_err_and c.from_residual.result c.from_residual.ensures.1 in
    rw (p.1, p.2) (Taken-fault _ _ _ _ _ _ _ c.loop-item.invariant _ is)

pub loop-item-preserved : goal.loop-item-preserved
loop-item-preserved g c =
    let is = rw c.in_ok-item.was at c.in-Some.ensures.steps in
    Taken-step _ _ _ _ _ _ _ c.loop-item.invariant _ _ is c.in_ok-take.ensures.clean c.in_ok-take.ensures.held

pub returns-in_err-take-clause-fault : goal.returns-in_err-take-clause-fault
returns-in_err-take-clause-fault g c =
    let is = rw c.in_ok-item.was at c.in-Some.ensures.steps in
    let p = err_from_is_err_and c.from_residual-in_err-take.result c.from_residual-in_err-take.ensures.1 in
    rw (p.1, p.2) (Taken-fails _ _ _ _ _ _ _ c.loop-item.invariant _ _ is c.in_err-take.ensures.fault)

pub returns-clause-held : goal.returns-clause-held
returns-clause-held g c = Taken-end _ _ _ _ _ _ c.loop-item.invariant c.in-None.ensures.steps.0

pub returns-clause-clean : goal.returns-clause-clean
returns-clause-clean g c = Taken-clean _ _ _ _ _ _ c.loop-item.invariant c.in-None.ensures.steps.0
