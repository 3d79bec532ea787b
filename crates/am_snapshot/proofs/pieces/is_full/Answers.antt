use Rattle.std.proofs.Common.{◌≢◌, ◌≤◌, length, sym, inr, arith}
use Rattle.std.proofs.lemmas.Bool.{ltb-false, eqb-false}
use Rattle.am_snapshot.proofs.PieceRows.{delimited_filled}
use Rattle.am_snapshot.proofs.pieces.is_full.Goals as goal

pub returns-then-not-is_empty-clause-room : goal.returns-then-not-is_empty-clause-room
returns-then-not-is_empty-clause-room c not_full =
    let filled = delimited_filled c.args.content.now in
    let few : c.delimited_length.result ≤ c.saturating_sub.result = ltb-false _ _ not_full in
    let some : length c.args.row.now ≢ 0 = eqb-false (length c.args.row.now) 0 (sym c.if-not-is_empty.ensures) in
    inr (omega arith)
