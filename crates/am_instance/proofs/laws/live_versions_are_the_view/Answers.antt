use Rattle.std.proofs.Common.{sym, subst}
use Rattle.am_merge.specs.Views.{IsViewAt}
use Rattle.am_merge.proofs.Keys.{key_order}
use Rattle.am_merge.proofs.Sweeps.{IsMap-filter, at-swept}
use Rattle.am_instance.proofs.laws.live_versions_are_the_view.Goals as goal

pub returns : goal.returns
returns g c = λ map set now is_map shown.
    let seen = g.V.Version.seen in
    let cmp = g.V.Key.Ord.cmp in
    let keys = key_order g.met.V.Key.Ord.total g.met.V.Version.exact_keys in
    record {
      order = IsMap-filter seen cmp _ map is_map;
      shown = λ key. subst (λ found. IsViewAt seen set now key found) (sym (at-swept seen cmp keys now map key is_map)) (shown key);
    }
