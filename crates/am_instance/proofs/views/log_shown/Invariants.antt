use Rattle.std.proofs.Common.{◌≡◌, ◌++◌}
use Rattle.am_instance.specs.InstanceStates.{log_in_view}
use Rattle.am_instance.proofs.views.log_shown.Given as goal

abbrev pub invariant-loop-version : goal.invariant-loop-version
invariant-loop-version l = l.shown.items ++ log_in_view l.now l.version-iterator ≡ log_in_view l.now l.log
