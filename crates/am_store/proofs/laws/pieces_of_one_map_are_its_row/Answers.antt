use Rattle.am_merge.proofs.Keys.{key_order}
use Rattle.am_store.proofs.RewriteRows.{one_row}
use Rattle.am_store.proofs.laws.pieces_of_one_map_are_its_row.Goals as goal

pub returns : goal.returns
returns g c = one_row g.V.Version.seen g.V.Key.Ord.cmp (key_order g.met.V.Key.Ord.total g.met.V.Version.exact_keys)
