use Rattle.std.proofs.Common.{◌≡◌, take}
use Rattle.am_api_decisions.specs.Recent.{kept_of}
use Rattle.am_api_decisions.proofs.recent.kept_of.Given as goal

-- of the alerts so far they are kept
abbrev pub invariant-loop-alert : goal.invariant-loop-alert
invariant-loop-alert l = l.kept.items ≡ kept_of l.group_key (take l.alert-index l.alerts)
