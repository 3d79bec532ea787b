use Rattle.am_merge.proofs.Keys.{key_order}
use Rattle.am_report.proofs.Agreeing.{shown_alike, held_alike}
use Rattle.am_report.proofs.difference_laws.nothing_is_different_where_all_is_the_same.Goals as goal

pub returns-clause-shown : goal.returns-clause-shown
returns-clause-shown g c = λ sources now maps values.
    let keys = key_order g.met.V.Key.Ord.total g.met.V.Version.exact_keys in
    shown_alike g.V.Version.seen g.V.Key.Ord.cmp keys g.V.Version.is_value g.met.V.Version.exact sources now maps values

pub returns-clause-held : goal.returns-clause-held
returns-clause-held g c = λ sources now maps values.
    let keys = key_order g.met.V.Key.Ord.total g.met.V.Version.exact_keys in
    held_alike g.V.Version.seen g.V.Key.Ord.cmp keys g.V.Version.is_value g.met.V.Version.exact sources now maps values
