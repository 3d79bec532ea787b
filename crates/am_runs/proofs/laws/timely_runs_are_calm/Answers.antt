use Rattle.am_merge.proofs.Keys.{key_order}
use Rattle.am_runs.proofs.Goods.{timely_calm}
use Rattle.am_runs.proofs.laws.timely_runs_are_calm.Goals as goal

pub returns : goal.returns
returns g c members spread flight steps positive run timely place =
    timely_calm g.V.Version.seen g.V.Key.Ord.cmp (key_order g.met.V.Key.Ord.total g.met.V.Version.exact_keys) spread flight members steps positive run timely place
