-- A message of Alertmanager's webhook, version 4 (`webhook_config`): a JSON object (RFC 8259). Keys that aren't named here are
-- ignored.
use Rattle.std.specs.Prelude.{◌≡◌, ℕ, Bool, true, false, ◌&&◌, nat_lt, if◌then◌else◌, List, [], ◌∷◌, codes, Option, Some, None, is_some}
use Rattle.std.specs.Prelude.{option_map, option_and_then, ok_or, unwrap_or, Result, Ok, Err}
use Rattle.std.specs.Str.{bytes_eq}
use Rattle.serde_json.specs.Data.{Data, Items, no_items, item, Members, no_members, member}
use Rattle.serde_json.specs.Find.{get, as_str, as_array, as_object}
use Rattle.am_matcher.specs.declared.labels.Label.{Label}
use Rattle.am_silence_json.specs.Posts.{text_in}
use Rattle.am_api_decisions.specs.declared.key.MessageKey.{MessageKey}
use Rattle.am_api_decisions.specs.declared.key.MessageKey.TheVariants as keys
use Rattle.am_api_decisions.specs.declared.message.Alert.{Alert}
use Rattle.am_api_decisions.specs.declared.message.WebhookMessage.{WebhookMessage}
use Rattle.am_api_decisions.specs.Found.{number_in}
use Rattle.am_api_decisions.specs.Orders.{AreInOrder}
use Rattle.am_api_decisions.specs.Steps.{◌>>=◌, each}

-- ---- labels

-- the labels in an object of texts, which has each name once, in the byte order of names, as the labels do
abbrev pub labels_of : Members → Option (List Label)
labels_of no_members = Some []
labels_of (member name d ms) =
    option_and_then (λ value. option_map (λ labels. record { name = name; value = value } ∷ labels) (labels_of ms)) (as_str d)

abbrev pub labels_in : Data → Option (List Label)
labels_in d = option_and_then labels_of (option_and_then as_object (get (codes "labels") d))

-- ---- alerts

-- true if an alert with this status fires; otherwise it is resolved
unfoldable pub firing_of : List ℕ → Option Bool
firing_of status =
    if bytes_eq status (codes "firing") then Some true else if bytes_eq status (codes "resolved") then Some false else None

abbrev pub firing_in : Data → Option Bool
firing_in d = option_and_then firing_of (text_in (codes "status") d)

-- an alert: its labels, followed by its status
abbrev pub alert_of : Data → Result Alert MessageKey
alert_of d = do
  labels ← ok_or (labels_in d) keys.Labels
  is_firing ← ok_or (firing_in d) keys.Status
  Ok (record { labels = labels; is_firing = is_firing })

-- the alert's labels are in the order of their names
abbrev pub IsInOrder : Alert → Type 0
IsInOrder alert = AreInOrder alert.labels

-- all of them are objects
abbrev pub are_objects : Items → Bool
are_objects no_items = true
are_objects (item d ds) = is_some (as_object d) && are_objects ds

-- there is at least one
abbrev pub has_items : Items → Bool
has_items no_items = false
has_items (item d ds) = true

-- all of them are objects, and there is at least one
abbrev pub are_some_objects : Items → Bool
are_some_objects ds = has_items ds && are_objects ds

abbrev pub some_objects : Items → Option Items
some_objects ds = if are_some_objects ds then Some ds else None

abbrev pub objects_in : Data → Option Items
objects_in d = option_and_then some_objects (option_and_then as_array (get (codes "alerts") d))

-- the alerts, or the first fault of the first alert that has one
abbrev pub alerts_in : Data → Result (List Alert) MessageKey
alerts_in d = do
  objects ← ok_or (objects_in d) keys.Alerts
  each alert_of objects

-- ---- messages

-- the content of a message
pub record Said : Type 0 where
  pub group_key : List ℕ
  pub receiver : List ℕ
  pub alerts : List Alert

abbrev pub said : WebhookMessage → Said
said m = record { group_key = m.group_key; receiver = m.receiver; alerts = m.alerts.items }

-- the content of an object, or the key of its first fault
unfoldable pub message_of : Data → Result Said MessageKey
message_of d = do
  group_key ← ok_or (text_in (codes "groupKey") d) keys.GroupKey
  receiver ← ok_or (text_in (codes "receiver") d) keys.Receiver
  alerts ← alerts_in d
  Ok (record { group_key = group_key; receiver = receiver; alerts = alerts })

-- the object says this, whether or not alerts were left out
abbrev pub Says : Data → WebhookMessage → Type 0
Says d m = message_of d ≡ Ok (said m)

-- alerts were left out: `truncatedAlerts` is a whole number above 0
abbrev pub is_truncated : Data → Bool
is_truncated d = nat_lt 0 (unwrap_or (number_in (codes "truncatedAlerts") d) 0)

-- the object is this message, with all alerts
pub record IsMessage (d : Data) (m : WebhookMessage) : Type 0 where
  pub says : Says d m
  pub whole : is_truncated d ≡ false

-- alerts were left out of the message, which has no other fault
pub record IsTruncated (d : Data) : Type 0 where
  pub message : WebhookMessage
  pub says : Says d message
  pub truncated : is_truncated d ≡ true

-- the value at this key is missing or of another kind, and that of no key before it is
abbrev pub IsFirstFault : Data → MessageKey → Type 0
IsFirstFault d key = message_of d ≡ Err key
