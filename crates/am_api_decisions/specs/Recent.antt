-- The alerts of the last messages that were asked about, as they are kept in mind and listed.
use Rattle.std.specs.Prelude.{ℕ, ◌+◌, ◌&&◌, nat_le, not, Bool, List, ◌++◌, length, map, filter, take}
use Rattle.std.specs.List.{sum_by}
use Rattle.std.specs.Str.{bytes_eq}
use Rattle.serde_json.specs.Data.{Data}
use Rattle.am_api_decisions.specs.Answers.{labels_data}
use Rattle.am_api_decisions.specs.declared.message.Alert.{Alert}
use Rattle.am_api_decisions.specs.declared.message.WebhookMessage.{WebhookMessage}
use Rattle.am_matcher.specs.declared.labels.Label.{Label}
use Rattle.am_report.specs.Json.Views.{list_line}
use Rattle.am_api_silences.specs.Replies.{good_bytes}
use Rattle.am_api_decisions.specs.declared.recent.RecentAlert.{RecentAlert}

-- ---- what is kept of a message

-- the number of bytes that a label counts as: those of its name and its value, and 64 for what holds them
abbrev pub label_size : Label → ℕ
label_size label = length label.name + length label.value + 64

-- the number of bytes that an alert of a group counts as
abbrev pub alert_size : List ℕ → List Label → ℕ
alert_size group_key labels = length group_key + sum_by label_size labels

-- An alert of a group is kept if it fires, and counts as at most 2,048 bytes.
abbrev pub is_kept : List ℕ → Alert → Bool
is_kept group_key alert = alert.is_firing && nat_le (alert_size group_key alert.labels) 2_048

-- an alert as it is kept
abbrev pub kept_as : List ℕ → Alert → RecentAlert
kept_as group_key alert = record { group_key = group_key; labels = alert.labels }

-- the alerts of a group that are kept, in order
abbrev pub kept_of : List ℕ → List Alert → List RecentAlert
kept_of group_key alerts = map (kept_as group_key) (filter (is_kept group_key) alerts)

-- ---- what is kept of older messages

-- The alert was in another group.
abbrev pub is_of_another : List ℕ → RecentAlert → Bool
is_of_another group_key alert = not (bytes_eq alert.group_key group_key)

-- the alerts of other groups
abbrev pub of_others : List ℕ → List RecentAlert → List RecentAlert
of_others group_key alerts = filter (is_of_another group_key) alerts

-- the alerts that are kept once a message is asked about: those of its first 512, then those of other groups; 512 in all, the
-- newest
abbrev pub noted : List RecentAlert → WebhookMessage → List RecentAlert
noted alerts m = take 512 (kept_of m.group_key (take 512 m.alerts.items) ++ of_others m.group_key alerts)

-- ---- the list

-- an alert as it is listed: its labels
abbrev pub alert_data : RecentAlert → Data
alert_data alert = labels_data alert.labels

-- the reply 200 with the labels of these alerts as one line of JSON
abbrev pub alerts_bytes : List RecentAlert → List ℕ
alerts_bytes alerts = good_bytes (list_line (map alert_data alerts))
