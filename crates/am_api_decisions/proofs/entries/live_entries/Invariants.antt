use Rattle.std.proofs.Common.{◌≡◌, ◌++◌}
use Rattle.am_instance.specs.InstanceStates.{log_in_view}
use Rattle.am_api_decisions.proofs.entries.live_entries.Given as goal

-- with the live ones of those that are left, they are all
abbrev pub invariant-loop-entry : goal.invariant-loop-entry
invariant-loop-entry l = l.rows.items ++ log_in_view l.now l.entry-iterator ≡ log_in_view l.now l.log
