use Rattle.am_merge.proofs.Keys.{key_order}
use Rattle.am_snapshot.proofs.PieceRows.{piece_whole, piece_rest, piece_shorter}
use Rattle.am_snapshot.proofs.laws.pieces_are_the_row.Goals as goal

pub returns-clause-last : goal.returns-clause-last
returns-clause-last g c most = piece_whole g.V.Version.seen most

pub returns-clause-others : goal.returns-clause-others
returns-clause-others g c most = piece_rest g.V.Version.seen most g.V.Key.Ord.cmp (key_order g.met.V.Key.Ord.total g.met.V.Version.exact_keys)

pub returns-clause-shorter : goal.returns-clause-shorter
returns-clause-shorter g c most = piece_shorter g.V.Version.seen most g.V.Key.Ord.cmp (key_order g.met.V.Key.Ord.total g.met.V.Version.exact_keys)
