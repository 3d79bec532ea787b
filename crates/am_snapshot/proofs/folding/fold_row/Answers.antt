use Rattle.std.proofs.Common.{refl}
use Rattle.am_wire.specs.declared.unknown.Unknown.TheVariants.{Drop}
use Rattle.std.proofs.lemmas.Result.{err_from_is_err_and}
use Rattle.am_snapshot.proofs.Stops.{fold_reading, fold_saving, fold_within, is_fold}
use Rattle.am_snapshot.proofs.folding.fold_row.Goals as goal

pub returns-in_err-held-clause-stopped : goal.returns-in_err-held-clause-stopped
returns-in_err-held-clause-stopped g c =
    let p = err_from_is_err_and c.from_residual.result c.from_residual.ensures.1 in
    rw (p.1, p.2) (fold_reading g.V.Version.seen g.V.Key.Ord.cmp (g.V.Message.reads Drop) _ _ g.W.Write.contents _ c.in_err-held.field-0.0 c.in_err-held.ensures.fault)

pub returns-clause-stopped : goal.returns-clause-stopped
returns-clause-stopped g c =
    let start = g.R.Read.remaining c.args.reader.now in
    let left = g.R.Read.remaining c.take_row.new.reader in
    let fold = is_fold g.V.Version.seen g.V.Key.Ord.cmp (g.V.Message.reads Drop) start left c.in_ok-held.held _ refl c.in_ok-held.ensures.order c.in_ok-held.ensures.best in
    let within = fold_within g.V.Version.seen g.V.Key.Ord.cmp (g.V.Message.reads Drop) start left _ fold c.in_ok-held.ensures.size in
    fold_saving g.V.Version.seen g.V.Key.Ord.cmp (g.V.Message.reads Drop) start left g.W.Write.contents _ _ _ c.save.result within c.save.ensures.stopped c.save.ensures.too_large
