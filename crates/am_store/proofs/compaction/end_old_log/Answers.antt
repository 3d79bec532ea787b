use Rattle.std.proofs.Common.{rules}
use Rattle.std.proofs.lemmas.Result.{err_from_is_err_and}
use Rattle.am_store.proofs.compaction.end_old_log.Goals as goal

pub returns-in_err-next-clause-advances : goal.returns-in_err-next-clause-advances
returns-in_err-next-clause-advances g c =
    let p = err_from_is_err_and c.from_residual-in_err-next.result c.from_residual-in_err-next.ensures.1 in
    rw (p.1, p.2) (λ most map. search (rules, c.end_log.ensures most map))

pub returns-clause-advances : goal.returns-clause-advances
returns-clause-advances g c = λ most map. search (rules, c.end_log.ensures most map)
