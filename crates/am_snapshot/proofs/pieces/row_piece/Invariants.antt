use Rattle.am_snapshot.proofs.PieceRows.{IsFront}
use Rattle.am_snapshot.proofs.pieces.row_piece.Given as goal

abbrev pub invariant-loop-version : goal.invariant-loop-version
invariant-loop-version g l = IsFront g.V.Version.seen l.most l.fn.versions l.version-iterator l.bytes.items
