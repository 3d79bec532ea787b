-- The answer to a notice: one step, and its reply.
use Rattle.std.specs.Prelude.{◌≡◌, ◌⊎◌, ℕ, ◌+◌, nat_le, Bool, true, false, List, Option, None, Some, Result, Ok, Err}
use Rattle.am_api_decisions.specs.Answers.{logged_data}
use Rattle.am_api_decisions.specs.declared.notice.Notice.{Notice}
use Rattle.am_instance.specs.InstanceStates.{InstanceState, entry_at}
use Rattle.am_instance.specs.OneStep.{IsStep}
use Rattle.am_instance.specs.Sendings.{nothing_sent, sent_by}
use Rattle.am_gossip.specs.declared.refusals.StepError.{StepError}
use Rattle.am_instance.specs.declared.event.Event.{Event}
use Rattle.am_instance.specs.declared.event.Event.TheVariants as events
use Rattle.am_instance.specs.declared.reply.Outcome.{Outcome}
use Rattle.am_instance.specs.declared.reply.Reply.{Reply}
use Rattle.am_instance.specs.declared.reply.Reply.TheVariants as replies
use Rattle.am_nflog.specs.LogKeys.{LogKey}
use Rattle.am_nflog.specs.Mesh.{Mesh as LogMesh}
use Rattle.serde_json.specs.Written.{compact_text}
use Rattle.am_api_silences.specs.Answers.{Answered}
use Rattle.am_api_silences.specs.ReplyBuilder.{IsNoMemory}
use Rattle.am_api_silences.specs.Replies.{Says, good_bytes, line_bytes}
use Rattle.am_api_decisions.specs.Lines.{error_line}

-- the event that logs a notice
abbrev pub notified_event : Notice → Event
notified_event notice = events.Notified notice.group_key notice.receiver notice.firing notice.resolved notice.repeat

-- The bytes say whether the notice was logged.
abbrev pub IsLoggedBytes : Reply → List ℕ → Type 0
IsLoggedBytes (replies.Logged is_logged) bytes = bytes ≡ good_bytes (compact_text (logged_data is_logged))
IsLoggedBytes _ bytes = ⊥

-- The reply says what the step replied, and its frames are handed on; if the step was refused, the reply gives the cause, and
-- nothing is sent.
abbrev pub TellsNotice : Result Outcome StepError → Answered → Type 0
TellsNotice (Ok outcome) answered = Says (IsLoggedBytes outcome.reply) answered.reply × (answered.sent ≡ sent_by outcome)
TellsNotice (Err error) answered = Says (λ bytes. bytes ≡ line_bytes (error_line error)) answered.reply × (answered.sent ≡ nothing_sent)

-- A notice is logged by one step at the moment, and answered by its reply.
abbrev pub IsLogged : ℕ → Notice → InstanceState → Answered → InstanceState → Type 0
IsLogged now notice old answered new =
    (step : Result Outcome StepError) × IsStep old (notified_event notice) now step new × TellsNotice step answered

-- ---- a notice whose decision is older than an entry of the log

-- the key of the log that a notice is about
abbrev pub key_of : Notice → LogKey
key_of notice = record { group_key = notice.group_key; receiver = notice.receiver }

-- There is a moment, and an entry that was made a millisecond or more after it. (Moments of decisions are given to the
-- millisecond.)
abbrev pub is_since : Option ℕ → Option LogMesh → Bool
is_since None entry = false
is_since (Some moment) None = false
is_since (Some moment) (Some version) = nat_le (moment + 1_000_000) version.entry.timestamp

-- The log has an entry of the notice's group that was made after its decision.
abbrev pub is_late : Notice → InstanceState → Bool
is_late notice stand = is_since notice.decided_at (entry_at stand.log (key_of notice))

-- Nothing is logged, and the reply says so.
pub record IsPassedOver (old : InstanceState) (answered : Answered) (new : InstanceState) : Type 0 where
  pub says : Says (λ bytes. bytes ≡ good_bytes (compact_text (logged_data false))) answered.reply
  pub sent : answered.sent ≡ nothing_sent
  pub same : new ≡ old

-- There was no memory to look into the log, and the reply says so.
pub record IsUnread (old : InstanceState) (answered : Answered) (new : InstanceState) : Type 0 where
  pub says : IsNoMemory answered.reply
  pub sent : answered.sent ≡ nothing_sent
  pub same : new ≡ old

-- The notice is answered, by whether it is late.
abbrev pub IsNoticedBy : Bool → ℕ → Notice → InstanceState → Answered → InstanceState → Type 0
IsNoticedBy true now notice old answered new = IsPassedOver old answered new
IsNoticedBy false now notice old answered new = IsLogged now notice old answered new

-- The notice is logged by one step, unless the log has an entry of its group that was made after its decision.
abbrev pub IsNoticed : ℕ → Notice → InstanceState → Answered → InstanceState → Type 0
IsNoticed now notice old answered new = IsNoticedBy (is_late notice old) now notice old answered new ⊎ IsUnread old answered new
