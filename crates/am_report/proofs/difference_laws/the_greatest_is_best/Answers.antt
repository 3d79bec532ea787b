use Rattle.am_merge.proofs.Keys.{key_order}
use Rattle.am_report.proofs.Agreeing.{greatest_best}
use Rattle.am_report.proofs.difference_laws.the_greatest_is_best.Goals as goal

pub returns : goal.returns
returns g c = λ sources key greatest others maps ranked.
    let keys = key_order g.met.V.Key.Ord.total g.met.V.Version.exact_keys in
    greatest_best g.V.Version.seen g.V.Key.Ord.cmp keys sources key greatest others maps ranked
