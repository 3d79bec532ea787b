use Rattle.am_merge.proofs.Keys.{key_order}
use Rattle.am_merge.proofs.Sweeps.{swept_join}
use Rattle.am_merge.proofs.laws.sweep_and_join_commute.Goals as goal

pub returns : goal.returns
returns g c a b joined now = swept_join g.V.Version.seen now g.V.Key.Ord.cmp (key_order g.met.V.Key.Ord.total g.met.V.Version.exact_keys) a b joined
