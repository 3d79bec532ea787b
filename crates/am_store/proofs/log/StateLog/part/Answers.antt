use Rattle.std.proofs.Common.{rules, true, [], ◌∷◌, refl, sym, append-nil}
use Rattle.std.proofs.lemmas.Result.{err_from_is_err_and}
use mathlib.Core.List.{append_assoc}
use Rattle.am_store.specs.Calls.{Miss, Rename}
use Rattle.am_store.specs.Parting.{Unbegun, Unmissed, Unrenamed, Untried, beginning_until}
use Rattle.am_store.specs.Rewrites.{old_log, own_log}
use Rattle.am_store.proofs.PartingStops.{in_two, where_both_refused}
use Rattle.am_store.proofs.log.StateLog.part.Goals as goal

pub returns-in_err-own-clause-stopped : goal.returns-in_err-own-clause-stopped
returns-in_err-own-clause-stopped g c =
    let p = err_from_is_err_and c.from_residual.result c.from_residual.ensures.1 in
    rw p.1 (record {
      stops = record {
        stop = Untried;
        directory = c.directory_of-directory.result.now;
        standing = c.directory_of-directory.ensures;
        calls = sym (append-nil c.args.disk.now.log.events);
      };
      trust = refl;
    })

pub returns-in_err-old-clause-stopped : goal.returns-in_err-old-clause-stopped
returns-in_err-old-clause-stopped g c =
    let p = err_from_is_err_and c.from_residual-in_err-old.result c.from_residual-in_err-old.ensures.1 in
    rw p.1 (record {
      stops = record {
        stop = Untried;
        directory = c.directory_of-directory.result.now;
        standing = c.directory_of-directory.ensures;
        calls = sym (append-nil c.args.disk.now.log.events);
      };
      trust = refl;
    })

pub returns-in_err-find-clause-stopped : goal.returns-in_err-find-clause-stopped
returns-in_err-find-clause-stopped g c =
    let p = err_from_is_err_and c.from_residual-in_err-find.result c.from_residual-in_err-find.ensures.1 in
    rw p.1 (record {
      stops = record {
        stop = Unmissed;
        directory = c.directory_of-directory.result.now;
        standing = c.directory_of-directory.ensures;
        calls = search rules;
      };
      trust = refl;
    })

pub returns-in_err-rename-clause-stopped : goal.returns-in_err-rename-clause-stopped
returns-in_err-rename-clause-stopped g c =
    let p = err_from_is_err_and c.from_residual-in_err-rename.result c.from_residual-in_err-rename.ensures.1 in
    rw p.1 (record {
      stops = record {
        stop = Unrenamed;
        directory = c.directory_of-directory.result.now;
        standing = c.directory_of-directory.ensures;
        calls = search (rules, append_assoc);
      };
      trust = refl;
    })

pub returns-clause-stopped : goal.returns-clause-stopped
returns-clause-stopped g c =
    let path = c.args.path.now in
    let directory = c.directory_of-directory.result.now in
    where_both_refused c.begin.result (λ stops trust. record {
      stops = record {
        stop = Unbegun stops.0;
        directory = directory;
        standing = c.directory_of-directory.ensures;
        calls =
            in_two c.args.disk.now.log.events c.rename.new.self.log.events c.begin.new.disk.log.events
            ((Miss (old_log path), true) ∷ (Rename (own_log path) (old_log path), true) ∷ []) (beginning_until stops.0 path directory)
            (search (rules, append_assoc)) stops.1;
      };
      trust = trust;
    }) c.begin.ensures.stopped c.begin.ensures.no_trust
