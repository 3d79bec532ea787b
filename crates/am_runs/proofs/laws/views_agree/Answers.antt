use Rattle.am_merge.proofs.Keys.{key_order}
use Rattle.am_runs.proofs.Agrees.{agree}
use Rattle.am_runs.proofs.laws.views_agree.Goals as goal

pub returns : goal.returns
returns g c members spread flight now before rest step key positive run timely values at old place other runs too =
    agree g.V.Version.seen g.V.Key.Ord.cmp (key_order g.met.V.Key.Ord.total g.met.V.Version.exact_keys) spread flight members now before step rest positive run timely at
    g.V.Version.is_value g.met.V.Version.exact values key old place other runs too
