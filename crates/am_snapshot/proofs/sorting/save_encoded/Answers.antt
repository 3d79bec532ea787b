use Rattle.std.proofs.Common.{[]}
use Rattle.std.proofs.lemmas.Result.{err_from_is_err_and}
use Rattle.am_snapshot.proofs.Passing.{passes_whole, stops_waiting, stopped_row}
use Rattle.am_snapshot.proofs.sorting.save_encoded.Goals as goal

pub returns-in_err-send_encoded-clause-stopped : goal.returns-in_err-send_encoded-clause-stopped
returns-in_err-send_encoded-clause-stopped g c =
    let p = err_from_is_err_and c.from_residual-in_err-send_encoded.result c.from_residual-in_err-send_encoded.ensures.1 in
    let stop = rw (c.in_ok-out.ensures.0, c.in_ok-out.ensures.1) at c.in_err-send_encoded.ensures.stopped in
    rw (p.1, p.2) (stopped_row _ _ _ _ stop)

pub returns-in_err-flush-clause-stopped : goal.returns-in_err-flush-clause-stopped
returns-in_err-flush-clause-stopped g c =
    let p = err_from_is_err_and c.from_residual-in_err-flush.result c.from_residual-in_err-flush.ensures.1 in
    let passed = rw (c.in_ok-out.ensures.0, c.in_ok-out.ensures.1) at c.in_ok-send_encoded.ensures.passed in
    rw (p.1, p.2) (stopped_row _ _ _ _ (stops_waiting _ _ _ [] _ _ _ _ _ passed c.in_err-flush.ensures.stopped))

pub returns-clause-row : goal.returns-clause-row
returns-clause-row g c =
    let passed = rw (c.in_ok-out.ensures.0, c.in_ok-out.ensures.1) at c.in_ok-send_encoded.ensures.passed in
    passes_whole _ _ _ _ _ _ _ passed c.in_ok-flush.ensures.passed
