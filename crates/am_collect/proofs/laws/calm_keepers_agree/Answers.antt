use Rattle.am_merge.proofs.Keys.{key_order}
use Rattle.am_collect.proofs.Runs.{agree}
use Rattle.am_collect.proofs.laws.calm_keepers_agree.Goals as goal

pub returns : goal.returns
returns g c = agree g.V.Version.seen g.V.Key.Ord.cmp (key_order g.met.V.Key.Ord.total g.met.V.Version.exact_keys) g.V.Version.is_value g.met.V.Version.exact
