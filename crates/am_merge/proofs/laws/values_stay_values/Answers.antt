use Rattle.std.proofs.lemmas.List.Elements.{All-filter}
use Rattle.std.proofs.lemmas.List.Sorted.{All-permutation}
use Rattle.am_version_order.specs.Versions.{is_live}
use Rattle.am_merge.proofs.Keys.{key_order}
use Rattle.am_merge.proofs.Values.{all_of_join}
use Rattle.am_merge.proofs.laws.values_stay_values.Goals as goal

pub returns-clause-made : goal.returns-clause-made
returns-clause-made g c versions map same = All-permutation g.V.Version.is_value versions map same

pub returns-clause-joined : goal.returns-clause-joined
returns-clause-joined g c = all_of_join g.V.Version.seen g.V.Key.Ord.cmp (key_order g.met.V.Key.Ord.total g.met.V.Version.exact_keys) g.V.Version.is_value

pub returns-clause-swept : goal.returns-clause-swept
returns-clause-swept g c now map = All-filter (λ v. is_live now (g.V.Version.seen v)) g.V.Version.is_value map
