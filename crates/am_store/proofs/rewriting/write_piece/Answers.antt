use Rattle.std.proofs.Common.{inl, inr, refl, rules}
use Rattle.std.proofs.lemmas.Result.{err_from_is_err_and}
use Rattle.std.specs.IoError.{error_kind}
use Rattle.std.specs.declared.io.ErrorKind.TheVariants.{OutOfMemory}
use Rattle.am_store.proofs.rewriting.write_piece.Goals as goal

pub returns-in_default-clause-fault : goal.returns-in_default-clause-fault
returns-in_default-clause-fault g c = inl (OutOfMemory, refl)

pub returns-in_err-written-clause-fault : goal.returns-in_err-written-clause-fault
returns-in_err-written-clause-fault g c =
    let p = err_from_is_err_and c.from_residual.result c.from_residual.ensures.1 in
    rw (p.1, p.2) (inr (c.in_err-written.ensures.too_large.0, c.in-Ok.field-0, c.in-Ok.ensures, search rules))

pub returns-in_err-write_down-clause-fault : goal.returns-in_err-write_down-clause-fault
returns-in_err-write_down-clause-fault g c =
    let p = err_from_is_err_and c.from_residual-in_err-write_down.result c.from_residual-in_err-write_down.ensures.1 in
    rw (p.1, p.2) (inl (error_kind c.in_err-write_down.field-0.0, refl))

pub returns-clause-piece : goal.returns-clause-piece
returns-clause-piece g c = (c.in-Ok.field-0, c.in-Ok.ensures, search rules, search rules, search rules, search rules)
