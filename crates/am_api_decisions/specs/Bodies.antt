-- The bodies of requests, and their faults. Memory may run out while any of them is read.
use Rattle.std.specs.Prelude.{ℕ, List, ⊤}
use Rattle.serde_json.specs.Data.{Data}
use Rattle.am_silence_json.specs.Posts.{IsObjectText}
use Rattle.am_api_decisions.specs.Messages as messages
use Rattle.am_api_decisions.specs.Notices as notices
use Rattle.am_api_decisions.specs.declared.message.WebhookMessage.{WebhookMessage}
use Rattle.am_api_decisions.specs.declared.notice.Notice.{Notice}
use Rattle.am_api_decisions.specs.declared.cause.DecisionCause.{DecisionCause}
use Rattle.am_api_decisions.specs.declared.cause.DecisionCause.TheVariants.{BadJson, BadMessage, Memory, Truncated}

-- The body is the text of a JSON object that is this message.
abbrev pub IsMessageIn : List ℕ → WebhookMessage → Type 0
IsMessageIn body message = (d : Data) × IsObjectText body d × messages.IsMessage d message

-- The body is the text of no object, or this is the first key of the object that is at fault, or else alerts were left out of the
-- message.
abbrev pub IsMessageFault : List ℕ → DecisionCause → Type 0
IsMessageFault body BadJson = (d : Data) → ¬ IsObjectText body d
IsMessageFault body (BadMessage key) = (d : Data) × IsObjectText body d × messages.IsFirstFault d key
IsMessageFault body Truncated = (d : Data) × IsObjectText body d × messages.IsTruncated d
IsMessageFault body Memory = ⊤
IsMessageFault body _ = ⊥

-- The body is the text of a JSON object that is this notice.
abbrev pub IsNoticeIn : List ℕ → Notice → Type 0
IsNoticeIn body notice = (d : Data) × IsObjectText body d × notices.IsNotice d notice

-- The body is the text of no object, or this is the first key of the object that is at fault.
abbrev pub IsNoticeFault : List ℕ → DecisionCause → Type 0
IsNoticeFault body BadJson = (d : Data) → ¬ IsObjectText body d
IsNoticeFault body (BadMessage key) = (d : Data) × IsObjectText body d × notices.IsFirstFault d key
IsNoticeFault body Memory = ⊤
IsNoticeFault body _ = ⊥
