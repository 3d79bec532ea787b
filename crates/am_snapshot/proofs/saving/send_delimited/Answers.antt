use Rattle.std.proofs.Common.{◌∙◌, List, ℕ, ap, arith, length, length-append}
use Rattle.std.proofs.lemmas.Result.{err_from_is_err_and}
use Rattle.am_wire.specs.Varint.{shortest}
use Rattle.am_snapshot.proofs.Passing.{passes_then, passes_count, stops_in_first, stops_later, ok_then, err_then}
use Rattle.am_snapshot.proofs.saving.send_delimited.Goals as goal

pub returns-in_err-send-clause-stopped : goal.returns-in_err-send-clause-stopped
returns-in_err-send-clause-stopped g c =
    let p = err_from_is_err_and c.from_residual.result c.from_residual.ensures.1 in
    let prefix = c.as_slice.ensures ∙ c.write_varint.ensures in
    let stop = rw prefix at c.in_err-send.ensures.stopped in
    rw (p.1, p.2) (stops_in_first _ _ c.args.out.now.gathered.items (shortest (length c.args.bytes.now)) c.args.bytes.now _ _ stop)

pub send-requires-2 : goal.send-requires-2
send-requires-2 g c =
    let prefix = ap (λ (x : List ℕ). length x) (c.as_slice.ensures ∙ c.write_varint.ensures) in
    let count = passes_count _ _ _ _ _ _ _ c.in_ok-send.ensures.passed in
    omega (arith, prefix, count, c.requires, length-append (shortest (length c.args.bytes.now)) c.args.bytes.now)

pub returns-clause-passed : goal.returns-clause-passed
returns-clause-passed g c =
    let prefix = c.as_slice.ensures ∙ c.write_varint.ensures in
    let passed = rw prefix at c.in_ok-send.ensures.passed in
    ok_then _ _ (λ second. passes_then _ _ _ _ _ _ _ _ _ _ _ passed second) c.send-2.result c.send-2.ensures.passed

pub returns-clause-stopped : goal.returns-clause-stopped
returns-clause-stopped g c =
    let prefix = c.as_slice.ensures ∙ c.write_varint.ensures in
    let passed = rw prefix at c.in_ok-send.ensures.passed in
    err_then _ _ (λ e stop. stops_later _ _ _ _ _ _ _ _ _ _ passed stop) c.send-2.result c.send-2.ensures.stopped
