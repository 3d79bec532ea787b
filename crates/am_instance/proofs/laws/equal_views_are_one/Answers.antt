use Rattle.std.proofs.Common.{sym, ◌∙◌}
use Rattle.am_merge.specs.Maps.{swept}
use Rattle.am_merge.proofs.Keys.{key_order}
use Rattle.am_merge.proofs.Joins.{same_map}
use Rattle.am_merge.proofs.Sweeps.{IsMap-filter, at-swept}
use Rattle.am_instance.proofs.laws.equal_views_are_one.Goals as goal

pub returns : goal.returns
returns g c = λ map other now one two same.
    let seen = g.V.Version.seen in
    let cmp = g.V.Key.Ord.cmp in
    let keys = key_order g.met.V.Key.Ord.total g.met.V.Version.exact_keys in
    same_map seen cmp keys (swept seen now map) (swept seen now other) (IsMap-filter seen cmp _ map one) (IsMap-filter seen cmp _ other two)
    (λ key. at-swept seen cmp keys now map key one ∙ same key ∙ sym (at-swept seen cmp keys now other key two))
