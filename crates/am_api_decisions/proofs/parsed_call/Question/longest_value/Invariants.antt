use Rattle.std.proofs.Common.{All, take}
use Rattle.am_api_decisions.specs.ParsedCalls.{AreWithin}
use Rattle.am_api_decisions.proofs.parsed_call.Question.longest_value.Given as goal

abbrev pub invariant-loop-alert : goal.invariant-loop-alert
invariant-loop-alert l = All (λ alert. AreWithin l.longest alert.labels) (take l.alert-index l.self.message.alerts.items)
