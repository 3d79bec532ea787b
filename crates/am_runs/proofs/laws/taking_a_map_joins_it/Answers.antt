use Rattle.am_merge.proofs.Keys.{key_order}
use Rattle.am_runs.proofs.Settled.{map_joined}
use Rattle.am_runs.proofs.laws.taking_a_map_joins_it.Goals as goal

pub returns : goal.returns
returns g c = map_joined g.V.Version.seen g.V.Key.Ord.cmp (key_order g.met.V.Key.Ord.total g.met.V.Version.exact_keys)
