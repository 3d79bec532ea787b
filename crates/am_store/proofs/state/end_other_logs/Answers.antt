use Rattle.std.proofs.Common.{rules}
use Rattle.std.proofs.lemmas.Result.{err_from_is_err_and}
use mathlib.Core.List.{append_assoc}
use Rattle.am_store.specs.Parting.{Unremoved, Unsynced}
use Rattle.am_store.proofs.state.end_other_logs.Goals as goal

pub returns-in_err-remove_logs-clause-stopped : goal.returns-in_err-remove_logs-clause-stopped
returns-in_err-remove_logs-clause-stopped g c =
    let p = err_from_is_err_and c.from_residual-in_err-remove_logs.result c.from_residual-in_err-remove_logs.ensures.1 in
    let stops = c.in_err-remove_logs.ensures.stopped in
    rw p.1 (record {
      stop = Unremoved stops.0;
      directory = c.directory_of-directory.result.now;
      standing = c.directory_of-directory.ensures;
      calls = stops.1;
    })

pub returns-in_err-sync_directory-clause-stopped : goal.returns-in_err-sync_directory-clause-stopped
returns-in_err-sync_directory-clause-stopped g c =
    let p = err_from_is_err_and c.from_residual-in_err-sync_directory.result c.from_residual-in_err-sync_directory.ensures.1 in
    let (old_stood, own_stood, removed) = c.in_ok-remove_logs.ensures.removed in
    rw p.1 (record {
      stop = Unsynced old_stood own_stood;
      directory = c.directory_of-directory.result.now;
      standing = c.directory_of-directory.ensures;
      calls = search (rules, append_assoc, removed);
    })
