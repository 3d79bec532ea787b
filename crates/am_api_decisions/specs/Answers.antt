-- The answer whether to notify, as JSON data (RFC 8259) with the keys of each object in byte order.
use Rattle.std.specs.Prelude.{ℕ, Bool, List, [], ◌∷◌, map, codes}
use Rattle.json.specs.Token.{Token, key as key_token, string as string_token}
use Rattle.serde_json.specs.Data.{Data, unsigned, boolean, number, string, array, object, Members, no_members, member}
use Rattle.serde_json.specs.View.{items_of}
use Rattle.am_dedup.specs.declared.decision.Reason.{Reason}
use Rattle.am_dedup.specs.declared.decision.Reason.TheVariants as reasons
use Rattle.am_matcher.specs.declared.labels.Label.{Label}
use Rattle.am_api_decisions.specs.declared.answer.Why.{Why}
use Rattle.am_api_decisions.specs.declared.answer.Why.TheVariants as whys
use Rattle.am_api_decisions.specs.declared.answer.Muted.{Muted}
use Rattle.am_api_decisions.specs.declared.answer.DecisionReply.{DecisionReply}
use Rattle.am_api_decisions.specs.Hashes.{hashes_data}

-- ---- why

abbrev pub reason_text : Reason → List ℕ
reason_text reasons.First = codes "First"
reason_text reasons.NewFiring = codes "NewFiring"
reason_text reasons.AllResolved = codes "AllResolved"
reason_text reasons.NewResolved = codes "NewResolved"
reason_text reasons.Repeat = codes "Repeat"

abbrev pub why_text : Why → List ℕ
why_text (whys.Notify reason) = reason_text reason
why_text whys.Unjudged = codes "Unjudged"
why_text whys.Skip = codes "Skip"
why_text whys.Muted = codes "Muted"

-- ---- labels

-- labels, in their order
abbrev pub label_members : List Label → Members
label_members [] = no_members
label_members (label ∷ labels) = member label.name (string label.value) (label_members labels)

-- the labels of an alert, as an object
abbrev pub labels_data : List Label → Data
labels_data labels = object (label_members labels)

-- the tokens of a label
abbrev pub label_tokens : Label → List Token
label_tokens label = key_token label.name ∷ string_token label.value ∷ []

-- ---- muted alerts

abbrev pub muted_data : Muted → Data
muted_data m =
    object (
    member (codes "labels") (labels_data m.labels) (
    member (codes "silencedBy") (array (items_of (map string m.silenced_by.items))) (
    member (codes "silencedByMore") (number (unsigned m.more)) no_members)))

-- ---- answers

-- an answer
unfoldable pub answer_data : DecisionReply → Data
answer_data a =
    object (
    member (codes "decidedAt") (string a.decided_at) (
    member (codes "firing") (hashes_data a.firing) (
    member (codes "groupKey") (string a.group_key) (
    member (codes "index") (number (unsigned a.index)) (
    member (codes "integration") (string a.integration) (
    member (codes "muted") (array (items_of (map muted_data a.muted.items))) (
    member (codes "notify") (boolean a.notify) (
    member (codes "reason") (string (why_text a.reason)) (
    member (codes "receiver") (string a.receiver) (
    member (codes "repeat") (number (unsigned a.repeat)) (
    member (codes "resolved") (hashes_data a.resolved) (
    member (codes "turnSeconds") (number (unsigned a.turn_seconds)) no_members))))))))))))

-- the answer to a notice: whether its entry was logged
abbrev pub logged_data : Bool → Data
logged_data is_logged = object (member (codes "logged") (boolean is_logged) no_members)
