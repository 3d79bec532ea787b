use Rattle.std.proofs.Common.{rules}
use Rattle.std.proofs.lemmas.Result.{err_from_is_err_and}
use Rattle.am_store.proofs.compaction.resume.Goals as goal

pub returns-in-Make-clause-advances : goal.returns-in-Make-clause-advances
returns-in-Make-clause-advances g c = search (rules, c.make_new.ensures c.args.most c.args.held.now)

pub returns-in-HandOver-clause-advances : goal.returns-in-HandOver-clause-advances
returns-in-HandOver-clause-advances g c = search (rules, c.hand_over.ensures c.args.most c.args.held.now)

pub returns-in-Rename-clause-advances : goal.returns-in-Rename-clause-advances
returns-in-Rename-clause-advances g c = search (rules, c.rename.ensures.advances c.args.most c.args.held.now)

pub returns-in_ok-next-in-Settle-clause-advances : goal.returns-in_ok-next-in-Settle-clause-advances
returns-in_ok-next-in-Settle-clause-advances g c = search (rules, c.settle.ensures c.args.most c.args.held.now c.in-Settle.replaced)

pub returns-in_err-next-in-Settle-clause-advances : goal.returns-in_err-next-in-Settle-clause-advances
returns-in_err-next-in-Settle-clause-advances g c =
    let p = err_from_is_err_and c.from_residual.result c.from_residual.ensures.1 in
    rw (p.1, p.2) (search (rules, c.settle.ensures c.args.most c.args.held.now c.in-Settle.replaced))

pub returns-in-EndLog-clause-advances : goal.returns-in-EndLog-clause-advances
returns-in-EndLog-clause-advances g c = search (rules, c.end_old_log.ensures.advances c.args.most c.args.held.now)

pub returns-in_ok-next-in-SettleEnd-clause-advances : goal.returns-in_ok-next-in-SettleEnd-clause-advances
returns-in_ok-next-in-SettleEnd-clause-advances g c = search (rules, c.settle_end.ensures c.args.most c.args.held.now c.in-SettleEnd.log)

pub returns-in_err-next-in-SettleEnd-clause-advances : goal.returns-in_err-next-in-SettleEnd-clause-advances
returns-in_err-next-in-SettleEnd-clause-advances g c =
    let p = err_from_is_err_and c.from_residual-in_err-next-in-SettleEnd.result c.from_residual-in_err-next-in-SettleEnd.ensures.1 in
    rw (p.1, p.2) (search (rules, c.settle_end.ensures c.args.most c.args.held.now c.in-SettleEnd.log))
