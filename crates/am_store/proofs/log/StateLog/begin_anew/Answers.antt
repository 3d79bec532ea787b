use Rattle.std.proofs.lemmas.Result.{err_from_is_err_and}
use Rattle.am_store.specs.Parting.{NoneBegun, Unremoved, beginning_until, removing}
use Rattle.am_store.proofs.PartingStops.{in_two, where_refused}
use Rattle.am_store.proofs.log.StateLog.begin_anew.Goals as goal

pub returns-in_err-remove_logs-clause-stopped : goal.returns-in_err-remove_logs-clause-stopped
returns-in_err-remove_logs-clause-stopped g c =
    let p = err_from_is_err_and c.from_residual-in_err-remove_logs.result c.from_residual-in_err-remove_logs.ensures.1 in
    let stops = c.in_err-remove_logs.ensures.stopped in
    rw p.1 (record {
      stop = Unremoved stops.0;
      directory = c.directory_of-directory.result.now;
      standing = c.directory_of-directory.ensures;
      calls = stops.1;
    })

pub returns-clause-stopped : goal.returns-clause-stopped
returns-clause-stopped g c =
    let path = c.args.path.now in
    let directory = c.directory_of-directory.result.now in
    let (old_stood, own_stood, removed) = c.in_ok-remove_logs.ensures.removed in
    where_refused c.begin.result (λ stops. record {
      stop = NoneBegun old_stood own_stood stops.0;
      directory = directory;
      standing = c.directory_of-directory.ensures;
      calls =
          in_two c.args.disk.now.log.events c.remove_logs.new.disk.log.events c.begin.new.disk.log.events (removing old_stood own_stood path directory) (beginning_until stops.0 path directory)
          removed stops.1;
    }) c.begin.ensures.stopped
