use Rattle.am_merge.proofs.Keys.{key_order}
use Rattle.am_merge.proofs.Fronts.{from_version}
use Rattle.am_merge.proofs.laws.a_map_goes_on_from_a_key.Goals as goal

pub returns : goal.returns
returns g c = from_version g.V.Version.seen g.V.Key.Ord.cmp (key_order g.met.V.Key.Ord.total g.met.V.Version.exact_keys)
