use Rattle.std.proofs.Common.{◌≡◌, map, length}
use Rattle.std.specs.Vec.Iter.{into_iter_items, into_iter_len}
use Rattle.am_api_decisions.specs.Asking.{counted_with, unasked}
use Rattle.am_api_decisions.proofs.tally.AlertTally.add_unasked.Given as goal

-- with those that are left it counts as with all of them
abbrev pub invariant-loop-alert : goal.invariant-loop-alert
invariant-loop-alert l = (counted_with l.self (map unasked (into_iter_items l.alert-iterator)) ≡ counted_with l.fn.self (map unasked (into_iter_items l.fn.alerts)))
    × (into_iter_len l.alert-iterator ≡ length (into_iter_items l.alert-iterator))
