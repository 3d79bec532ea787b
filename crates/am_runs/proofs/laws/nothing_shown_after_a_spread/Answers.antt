use Rattle.am_merge.proofs.Keys.{key_order}
use Rattle.am_runs.proofs.Agrees.{gone_after}
use Rattle.am_runs.proofs.laws.nothing_shown_after_a_spread.Goals as goal

pub returns : goal.returns
returns g c members spread flight now before rest step v positive run timely at has old place runs none =
    gone_after g.V.Version.seen g.V.Key.Ord.cmp (key_order g.met.V.Key.Ord.total g.met.V.Version.exact_keys) spread flight members now before step rest positive run timely at v has old place runs none
