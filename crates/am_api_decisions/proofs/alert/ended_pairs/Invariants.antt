use Rattle.std.proofs.Common.{◌≡◌, ◌++◌, map}
use Rattle.std.specs.List.{flat_map}
use Rattle.std.specs.Map.Iter.{deref_pair}
use Rattle.am_api_decisions.specs.Alerts.{ended_pair}
use Rattle.am_api_decisions.proofs.alert.ended_pairs.Given as goal

abbrev pub invariant-loop-name : goal.invariant-loop-name
invariant-loop-name l =
    l.bytes.items ++ flat_map ended_pair (map deref_pair l.name-iterator) ≡ flat_map ended_pair (map deref_pair l.values.entries)
