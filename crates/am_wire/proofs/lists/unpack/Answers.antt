use Rattle.std.proofs.Common.{sym, ◌∙◌}
use Rattle.std.proofs.lemmas.Result.{err_from_is_err_and}
use Rattle.am_wire.proofs.Items.{rest_is}
use Rattle.am_wire.proofs.Unpacking.{unpacked-fault, one_more, no_more-held, no_more-clean}
use Rattle.am_wire.proofs.lists.unpack.Goals as goal

pub returns-in_err-number-clause-fault : goal.returns-in_err-number-clause-fault
returns-in_err-number-clause-fault c =
    let p = err_from_is_err_and c.from_residual-in_err-number.result c.from_residual-in_err-number.ensures.1 in
    rw (p.1, p.2) (λ _. sym c.loop-rest.invariant.clean ∙ unpacked-fault _ _ _ (sym c.in_err-number.ensures.value) c.loop-rest-test.ensures)

pub loop-rest-preserved : goal.loop-rest-preserved
loop-rest-preserved c =
    rw (rest_is c.in_ok-number.len c.loop-rest.rest.now, c.in_ok-push.ensures.items)
    (one_more _ _ _ _ _ c.loop-rest.invariant c.in_ok-number.number c.in_ok-number.len (sym c.in_ok-number.ensures.value) c.in_ok-number.ensures.within.0 c.in_ok-number.ensures.within.1)

pub returns-clause-held : goal.returns-clause-held
returns-clause-held c = no_more-held _ _ _ _ _ c.loop-rest.invariant c.loop-rest-test.ensures

pub returns-clause-clean : goal.returns-clause-clean
returns-clause-clean c = no_more-clean _ _ _ _ _ c.loop-rest.invariant c.loop-rest-test.ensures
