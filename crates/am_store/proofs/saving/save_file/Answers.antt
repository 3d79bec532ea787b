use Rattle.std.proofs.Common.{refl, sym, ◌∙◌, rules, is_ok, false}
use Rattle.std.proofs.lemmas.Result.{err_from_is_err_and, IfErr-weaker}
use mathlib.Core.List.{append_assoc}
use Rattle.std.specs.IoError.{error_kind}
use Rattle.am_store.specs.Saves.{Unmade, Unreplaced, Unsettled}
use Rattle.am_store.proofs.Stops.{unreplaced, where_done}
use Rattle.am_store.proofs.saving.save_file.Goals as goal

pub returns-in_err-file-clause-stopped : goal.returns-in_err-file-clause-stopped
returns-in_err-file-clause-stopped g c =
    let p = err_from_is_err_and c.from_residual.result c.from_residual.ensures.1 in
    rw (p.1, p.2) (record {
      stop = Unmade;
      stood = is_ok c.remove.result;
      removed = false;
      calls = search (rules, append_assoc);
      cause = (error_kind c.in_err-file.field-0.0, refl);
    })

pub returns-then-is_err-clause-stopped : goal.returns-then-is_err-clause-stopped
returns-then-is_err-clause-stopped g c =
    IfErr-weaker c.replace-replaced.result _ _ (λ fault left. record {
      stop = Unreplaced left.lack;
      stood = is_ok c.remove.result;
      removed = is_ok c.remove-then-is_err.result;
      calls = unreplaced _ _ _ _ _ _ _ _ left.lack _ _ (search rules) c.remove.ensures.noted (search rules) left.calls (search rules);
      cause = left.cause;
    }) c.replace-replaced.ensures.left

pub returns-in_err-sync_directory-clause-stopped : goal.returns-in_err-sync_directory-clause-stopped
returns-in_err-sync_directory-clause-stopped g c =
    let p = err_from_is_err_and c.from_residual-in_err-sync_directory.result c.from_residual-in_err-sync_directory.ensures.1 in
    let replaced = where_done c.replace-replaced.result (sym c.is_err.ensures.value ∙ c.if-is_err.false) c.replace-replaced.ensures.replaced in
    rw (p.1, p.2) (record {
      stop = Unsettled c.directory_of.result.now;
      stood = is_ok c.remove.result;
      removed = false;
      calls = search (rules, append_assoc, replaced);
      cause = (c.directory_of.ensures, (error_kind c.in_err-sync_directory.field-0.0, refl));
    })
