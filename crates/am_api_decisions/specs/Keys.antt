-- The names of the keys of messages and notices.
use Rattle.std.specs.Prelude.{ℕ, List, codes}
use Rattle.am_api_decisions.specs.declared.key.MessageKey.{MessageKey}
use Rattle.am_api_decisions.specs.declared.key.MessageKey.TheVariants as keys

abbrev pub key_text : MessageKey → List ℕ
key_text keys.GroupKey = codes "groupKey"
key_text keys.Receiver = codes "receiver"
key_text keys.Alerts = codes "alerts"
key_text keys.Labels = codes "labels"
key_text keys.Status = codes "status"
key_text keys.Integration = codes "integration"
key_text keys.Index = codes "index"
key_text keys.Repeat = codes "repeat"
key_text keys.Notify = codes "notify"
key_text keys.Firing = codes "firing"
key_text keys.Resolved = codes "resolved"
key_text keys.DecidedAt = codes "decidedAt"
