use Rattle.std.proofs.Common.{refl, rules}
use Rattle.std.proofs.lemmas.Result.{err_from_is_err_and}
use Rattle.std.specs.IoError.{error_kind}
use Rattle.am_store.proofs.Rewrites.{done, undone}
use Rattle.am_store.proofs.rewriting.settle_end.Goals as goal

pub returns-in_err-sync_directory : goal.returns-in_err-sync_directory
returns-in_err-sync_directory g c =
    let p = err_from_is_err_and c.from_residual.result c.from_residual.ensures.1 in
    rw (p.1, p.2) (λ most map file. undone g.V.Version.seen g.V.Key.Ord.cmp c.args.path.now most g.D.File.Write.contents map _ _ c.directory_of.result.now file _ c.directory_of.ensures (search rules) (error_kind c.in_err-sync_directory.field-0.0, refl))

pub returns : goal.returns
returns g c = λ most map file. done g.V.Version.seen g.V.Key.Ord.cmp c.args.path.now most g.D.File.Write.contents map _ _ c.directory_of.result.now file c.directory_of.ensures (search rules)
