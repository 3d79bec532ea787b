use Rattle.std.proofs.Common.{map, take}
use Rattle.am_silence_json.specs.Tokens.{Adds, row_tokens}
use Rattle.am_api_decisions.specs.Recent.{alert_data}
use Rattle.am_api_decisions.proofs.recent.add_each_alert.Given as goal

-- the alerts so far are added
abbrev pub invariant-loop-alert : goal.invariant-loop-alert
invariant-loop-alert l = Adds l.initial.out l.out (row_tokens (map alert_data (take l.alert-index l.alerts)))
