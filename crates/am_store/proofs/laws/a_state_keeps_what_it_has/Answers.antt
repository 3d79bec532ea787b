use Rattle.am_merge.proofs.Keys.{key_order}
use Rattle.am_store.proofs.Outlasting.{join_has, swept_has}
use Rattle.am_store.proofs.laws.a_state_keeps_what_it_has.Goals as goal

pub returns-clause-joined : goal.returns-clause-joined
returns-clause-joined g c = λ state other joined v order join has.
    join_has g.V.Version.seen v g.V.Key.Ord.cmp (key_order g.met.V.Key.Ord.total g.met.V.Version.exact_keys) state joined order has other join

pub returns-clause-swept : goal.returns-clause-swept
returns-clause-swept g c = λ now state v has live. swept_has g.V.Version.seen v now state has live
