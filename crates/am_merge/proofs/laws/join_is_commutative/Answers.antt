use Rattle.am_merge.proofs.Keys.{key_order}
use Rattle.am_merge.proofs.Joins.{join_comm}
use Rattle.am_merge.proofs.laws.join_is_commutative.Goals as goal

pub returns : goal.returns
returns g c = join_comm g.V.Version.seen g.V.Key.Ord.cmp (key_order g.met.V.Key.Ord.total g.met.V.Version.exact_keys) g.V.Version.is_value g.met.V.Version.exact
