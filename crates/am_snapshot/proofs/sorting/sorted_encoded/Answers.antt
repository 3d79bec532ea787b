use Rattle.am_merge.proofs.Keys.{key_order}
use Rattle.am_snapshot.proofs.InOrder.{loaded_mapped}
use Rattle.am_snapshot.proofs.sorting.sorted_encoded.Goals as goal

pub returns-then-is_rising-clause-order : goal.returns-then-is_rising-clause-order
returns-then-is_rising-clause-order g c = rw c.deref.ensures.value at (c.is_rising.ensures c.if-is_rising.true)

pub returns-then-is_rising-clause-members : goal.returns-then-is_rising-clause-members
returns-then-is_rising-clause-members g c unknown =
    let keys = key_order g.met.T.Owned.Key.Ord.total g.met.T.Owned.Version.exact_keys in
    loaded_mapped g.T.Owned.Version.seen g.T.EncodedVersion.version g.T.Owned.Key.Ord.cmp keys (g.T.Owned.Message.reads unknown) c.args.row.now c.in-Some.encodings.items c.sort_encoded.new.encodings.items
    ((rw c.in-Some.is at c.in_ok-encodings.ensures) unknown) c.sort_encoded.ensures (rw c.deref.ensures.value at (c.is_rising.ensures c.if-is_rising.true))
