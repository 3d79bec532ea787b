use Rattle.std.proofs.Common.{refl, rules, is_ok}
use Rattle.std.proofs.lemmas.Result.{err_from_is_err_and}
use Rattle.std.specs.IoError.{error_kind}
use Rattle.am_store.proofs.Rewrites.{made, unmade, unnamed, unpermitted}
use Rattle.am_store.proofs.rewriting.make_new.Goals as goal

pub returns-in_err-name : goal.returns-in_err-name
returns-in_err-name g c =
    let p = err_from_is_err_and c.from_residual.result c.from_residual.ensures.1 in
    rw (p.1, p.2) (λ most map. unnamed g.V.Version.seen g.V.Key.Ord.cmp c.args.path.now most g.D.File.Write.contents map _ _ _ (search rules) (search rules))

pub returns-in_err-file : goal.returns-in_err-file
returns-in_err-file g c =
    let p = err_from_is_err_and c.from_residual-in_err-file.result c.from_residual-in_err-file.ensures.1 in
    rw (p.1, p.2) (λ most map. unmade g.V.Version.seen g.V.Key.Ord.cmp c.args.path.now most g.D.File.Write.contents map _ _ _ _ (is_ok c.remove.result) _ c.remove.ensures.noted (search rules) (search rules) (error_kind c.in_err-file.field-0.0, refl))

pub returns-in-Ok : goal.returns-in-Ok
returns-in-Ok g c = λ most map. made g.V.Version.seen g.V.Key.Ord.cmp c.args.path.now most g.D.File.Write.contents map _ _ (g.D.Disk.calls c.make.new.self) _ c.deref.result.now (is_ok c.remove.result) _ c.remove.ensures.noted (search rules) (search rules) (search rules) (search rules) (search rules) (search rules)

pub returns-in-Err : goal.returns-in-Err
returns-in-Err g c = λ most map. unpermitted g.V.Version.seen g.V.Key.Ord.cmp c.args.path.now most g.D.File.Write.contents map _ _ (g.D.Disk.calls c.make.new.self) (g.D.Disk.calls c.permit.new.self) _ c.deref.result.now (is_ok c.remove.result) c.remove_new.ensures.removed.0 _ c.remove.ensures.noted (search rules) (search rules) (search (rules, c.remove_new.ensures.removed.1)) (search rules) c.remove_new.ensures.fault
