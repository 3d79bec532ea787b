use Rattle.am_merge.proofs.Keys.{key_order}
use Rattle.am_merge.proofs.Exists.{has_join}
use Rattle.am_merge.proofs.laws.join_exists.Goals as goal

pub returns : goal.returns
returns g c = has_join g.V.Version.seen g.V.Key.Ord.cmp (key_order g.met.V.Key.Ord.total g.met.V.Version.exact_keys)
