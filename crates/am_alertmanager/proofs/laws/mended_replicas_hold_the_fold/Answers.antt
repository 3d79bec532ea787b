use Rattle.am_merge.proofs.Keys.{key_order}
use Rattle.am_alertmanager.proofs.Mended.{all_mended}
use Rattle.am_alertmanager.proofs.laws.mended_replicas_hold_the_fold.Goals as goal

pub returns : goal.returns
returns g c = λ now replicas fold maps fold_map best untied live.
    let keys = key_order g.met.V.Key.Ord.total g.met.V.Version.exact_keys in
    all_mended g.V.Version.seen g.V.Key.Ord.cmp keys now replicas fold maps fold_map best untied live
