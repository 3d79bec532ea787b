use Rattle.std.proofs.Common.{◌≡◌, [], map, drop}
use Rattle.std.specs.Map.Iter.{deref_pair}
use Rattle.am_api_decisions.specs.Alerts.{by_name}
use Rattle.am_api_decisions.proofs.alert.values_by_name.Given as goal

abbrev pub invariant-loop-label : goal.invariant-loop-label
invariant-loop-label l = by_name (map deref_pair l.values.entries) (drop l.label-index l.labels) ≡ by_name [] l.labels
