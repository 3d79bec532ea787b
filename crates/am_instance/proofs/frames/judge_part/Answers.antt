use Rattle.std.proofs.Common.{◌∙◌}
use Rattle.std.proofs.lemmas.Result.{err_from_is_err_and}
use Rattle.am_instance.specs.Deliveries.{first_fault, rows_of}
use Rattle.am_instance.proofs.Lifts.{silence_fault, log_fault}
use Rattle.am_instance.proofs.Judgements.{judged}
use Rattle.am_instance.proofs.frames.judge_part.Goals as goal

pub returns-in_err-validate_row-in-Sil-clause-fault : goal.returns-in_err-validate_row-in-Sil-clause-fault
returns-in_err-validate_row-in-Sil-clause-fault c =
    let p = err_from_is_err_and c.from_residual.result c.from_residual.ensures.1 in
    let found = rw c.as_slice-row.ensures at c.in_err-validate_row-in-Sil.ensures.fault in
    rw (p.1, p.2) (judged (first_fault (rows_of c.args.unknown c.args.part.now)) _ (λ e. silence_fault c.args.unknown c.args.part.now c.in-Sil.is ∙ found e))

pub returns-in_err-validate_row-in-Nfl-clause-fault : goal.returns-in_err-validate_row-in-Nfl-clause-fault
returns-in_err-validate_row-in-Nfl-clause-fault c =
    let p = err_from_is_err_and c.from_residual-in_err-validate_row-in-Nfl.result c.from_residual-in_err-validate_row-in-Nfl.ensures.1 in
    let found = rw c.as_slice-row.ensures at c.in_err-validate_row-in-Nfl.ensures.fault in
    rw (p.1, p.2) (judged (first_fault (rows_of c.args.unknown c.args.part.now)) _ (λ e. log_fault c.args.unknown c.args.part.now c.in-Nfl.is ∙ found e))

pub returns-in_ok-validate_row-in-Sil-clause-sound : goal.returns-in_ok-validate_row-in-Sil-clause-sound
returns-in_ok-validate_row-in-Sil-clause-sound c =
    silence_fault c.args.unknown c.args.part.now c.in-Sil.is ∙ rw c.as_slice-row.ensures at c.in_ok-validate_row-in-Sil.ensures.sound

pub returns-in_ok-validate_row-in-Nfl-clause-sound : goal.returns-in_ok-validate_row-in-Nfl-clause-sound
returns-in_ok-validate_row-in-Nfl-clause-sound c =
    log_fault c.args.unknown c.args.part.now c.in-Nfl.is ∙ rw c.as_slice-row.ensures at c.in_ok-validate_row-in-Nfl.ensures.sound
