use Rattle.std.proofs.Common.{rules}
use Rattle.std.proofs.lemmas.Result.{err_from_is_err_and}
use mathlib.Core.List.{append_assoc}
use Rattle.am_store.specs.Parting.{Unsettled}
use Rattle.am_store.proofs.log.new_log.Goals as goal

pub returns-in_err-sync_directory-clause-stopped : goal.returns-in_err-sync_directory-clause-stopped
returns-in_err-sync_directory-clause-stopped g c =
    let p = err_from_is_err_and c.from_residual-in_err-sync_directory.result c.from_residual-in_err-sync_directory.ensures.1 in
    rw p.1 (Unsettled, search (rules, append_assoc, c.requires))
