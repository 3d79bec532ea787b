use Rattle.std.proofs.Common.{List, ℕ, Option, Err, refl, ap, subst, rules}
use Rattle.std.proofs.lemmas.Result.{err_from_is_err_and}
use mathlib.Core.List.{append_assoc}
use Rattle.std.specs.IoError.{error_kind}
use Rattle.std.specs.Io.KnownBytes.{Appends}
use Rattle.am_snapshot.specs.Saving.{FitsRow}
use Rattle.am_snapshot.specs.Encodings.{row_encoding}
use Rattle.am_store.specs.Saves.{Row, Safety, Name}
use Rattle.am_store.proofs.Stops.{of_row, whole}
use Rattle.am_store.proofs.saving.replace.Goals as goal

pub returns-in_err-written-clause-left : goal.returns-in_err-written-clause-left
returns-in_err-written-clause-left g c =
    let p = err_from_is_err_and c.from_residual-in_err-written.result c.from_residual-in_err-written.ensures.1 in
    let error = c.in_err-written.field-0.0 in
    rw (p.1, p.2) (record {
      lack = Row;
      calls = search (rules, append_assoc);
      cause = (error, refl, of_row g.D.File.Write.contents c.args.file c.save_within.new.writer (FitsRow g.V.Version.seen c.args.most c.args.held.now) (row_encoding g.V.Version.seen c.args.held.now) error c.in_err-written.ensures.stopped (λ e. c.in_err-written.ensures.too_large.0 (ap Err e)));
    })

pub returns-in_err-sync-clause-left : goal.returns-in_err-sync-clause-left
returns-in_err-sync-clause-left g c =
    let p = err_from_is_err_and c.from_residual-in_err-sync.result c.from_residual-in_err-sync.ensures.1 in
    let row = row_encoding g.V.Version.seen c.args.held.now in
    let all = whole (g.D.File.Write.contents c.save_within.new.writer) row (subst (λ (o : Option (List ℕ)). Appends o (g.D.File.Write.contents c.save_within.new.writer) row) c.requires.empty c.in_ok-written.ensures.row) in
    rw (p.1, p.2) (record {
      lack = Safety;
      calls = search (rules, append_assoc, all);
      cause = (error_kind c.in_err-sync.field-0.0, refl);
    })

pub returns-in_err-rename-clause-left : goal.returns-in_err-rename-clause-left
returns-in_err-rename-clause-left g c =
    let p = err_from_is_err_and c.from_residual-in_err-rename.result c.from_residual-in_err-rename.ensures.1 in
    let row = row_encoding g.V.Version.seen c.args.held.now in
    let all = whole (g.D.File.Write.contents c.save_within.new.writer) row (subst (λ (o : Option (List ℕ)). Appends o (g.D.File.Write.contents c.save_within.new.writer) row) c.requires.empty c.in_ok-written.ensures.row) in
    rw (p.1, p.2) (record {
      lack = Name;
      calls = search (rules, append_assoc, all, c.requires.new);
      cause = (error_kind c.in_err-rename.field-0.0, refl);
    })
