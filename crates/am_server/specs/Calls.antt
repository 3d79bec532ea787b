-- The answers to calls of programs that send pages, and how far each of them has come.
use Rattle.std.specs.Prelude.{◌≡◌, ◌⊎◌, ℕ, List, ◌++◌, map, Option, None, Some, Result, Ok, Err, codes, ⊤}
use Rattle.std.specs.List.{AllByRecursion}
use Rattle.am_api_decisions.specs.ParsedCalls.{IsAsked}
use Rattle.am_api_decisions.specs.Asking.{AskedAlert, HoldsSame, IsMutesStep, counted_with, nothing_counted}
use Rattle.am_api_decisions.specs.Deciding.{Underway, group_of}
use Rattle.am_api_decisions.specs.Entries.{log_bytes}
use Rattle.am_api_decisions.specs.Noticing.{IsNoticed}
use Rattle.am_api_decisions.specs.Settling.{IsBrokenOff, IsDecided}
use Rattle.am_api_decisions.specs.declared.parsed_call.ParsedCall.{ParsedCall}
use Rattle.am_api_decisions.specs.declared.parsed_call.ParsedCall.TheVariants as asks
use Rattle.am_api_decisions.specs.declared.parsed_call.Question.{Question}
use Rattle.am_api_decisions.specs.declared.timing.Timing.{Timing}
use Rattle.am_api_silences.specs.Replies.{Says, bytes_of, line_bytes}
use Rattle.am_api_silences.specs.declared.replies.ResponseBytes.{ResponseBytes}
use Rattle.am_api_decisions.specs.declared.notice.Notice.{Notice}
use Rattle.am_http.specs.Lines.{RefusalLine, line, line_seen}
use Rattle.am_http.specs.declared.refusal.Refusal.{Refusal}
use Rattle.am_http.specs.declared.request.Request.{Request}
use Rattle.am_instance.specs.InstanceStates.{InstanceState, log_in_view}
use Rattle.am_instance.specs.Sendings.{Sent}
use Rattle.am_server.specs.Waiting.{request_of}
use Rattle.am_server.specs.declared.connection_state.CallProgress.{CallProgress}
use Rattle.am_server.specs.declared.connection_state.CallProgress.TheVariants as progress

-- ---- decisions

-- One step has asked for the silences that mute the alert, and has given these ids.
abbrev pub WasAsked : AskedAlert → Type 0
WasAsked one = (now : ℕ) × (old : InstanceState) × (new : InstanceState) × IsMutesStep now one.alert.labels one.ids old new

-- Some of the question's alerts were asked, each by a step, and counted; the others are left.
pub record IsUnderway (question : Question) (deciding : Underway) : Type 0 where
  pub asked : List AskedAlert
  pub each : AllByRecursion WasAsked asked
  pub group : deciding.group ≡ group_of question
  pub parts : question.message.alerts.items ≡ map (λ one. one.alert) asked ++ deciding.left
  pub counted : deciding.counted ≡ counted_with nothing_counted asked

-- The reply is the decision of the question, made between these states: of what was left of it, once some of its alerts had been
-- asked.
pub record AnswersQuestion (question : Question) (old : InstanceState) (reply : ResponseBytes) (new : InstanceState) : Type 0 where
  pub timing : Timing
  pub deciding : Underway
  pub underway : IsUnderway question deciding
  pub mid : InstanceState
  pub same : HoldsSame old mid
  pub decided : IsDecided timing deciding mid reply new ⊎ IsBrokenOff timing deciding mid reply new

-- ---- answers

-- The reply says what came of the notice between these states.
abbrev pub AnswersNotice : Notice → InstanceState → ResponseBytes → InstanceState → Type 0
AnswersNotice notice old reply new = (now : ℕ) × (sent : Sent) × IsNoticed now notice old (record { reply = reply; sent = sent }) new

-- The reply lists the entries of an instance's log that were live at some moment.
abbrev pub ListsLog : ResponseBytes → Type 0
ListsLog reply = (now : ℕ) × (stand : InstanceState) × Says (λ bytes. bytes ≡ log_bytes (log_in_view now stand.log)) reply

-- The reply answers what a request asks, between these states, or is the line of its fault. Of the recent alerts nothing is said.
abbrev pub AnswersAsked : Result ParsedCall Refusal → InstanceState → ResponseBytes → InstanceState → Type 0
AnswersAsked (Ok (asks.Decide question)) old reply new = AnswersQuestion question old reply new
AnswersAsked (Ok (asks.Notified notice)) old reply new = AnswersNotice notice old reply new
AnswersAsked (Ok asks.Log) old reply new = ListsLog reply
AnswersAsked (Ok asks.Alerts) old reply new = ⊤
AnswersAsked (Err refusal) old reply new = Says (λ bytes. bytes ≡ line_bytes (line_seen refusal)) reply

-- The reply answers the request, by what that asks.
abbrev pub IsAnswer : Request → InstanceState → ResponseBytes → InstanceState → Type 0
IsAnswer request old reply new = (what : Result ParsedCall Refusal) × IsAsked request what × AnswersAsked what old reply new

-- the reason that a call is turned away: the member stops, or too many wait
pub data CallCause : Type 0 where
  Stops : CallCause
  TooManyWait : CallCause

-- the line for each of them
abbrev pub call_line : CallCause → RefusalLine
call_line Stops = line 503 (codes "member stops")
call_line TooManyWait = line 503 (codes "too many wait")

-- The reply is such a line.
abbrev pub IsTurnedAway : ResponseBytes → Type 0
IsTurnedAway reply = (cause : CallCause) × (bytes_of reply ≡ line_bytes (call_line cause))

-- Whatever reply tells this line is such a reply.
abbrev pub WhenTold : (ResponseBytes → Type 0) → RefusalLine → Type 0
WhenTold IsSuch told = (reply : ResponseBytes) → Says (λ bytes. bytes ≡ line_bytes told) reply → IsSuch reply

-- ---- answers that are being made

-- It is the request, if it is any.
abbrev pub IsOnly : Request → Option Request → Type 0
IsOnly request None = ⊤
IsOnly request (Some other) = other ≡ request

-- The answer to the request has come this far: it waits, some of its alerts were asked, or a part of the log is written.
abbrev pub IsProgressOf : Request → CallProgress → Type 0
IsProgressOf request (progress.Turn turn) = request_of turn ≡ request
IsProgressOf request (progress.Due due) = due.request ≡ request
IsProgressOf request (progress.Deciding it) =
    (question : Question) × IsAsked request (Ok (asks.Decide question)) × IsUnderway question it.deciding × IsOnly request it.unheard
IsProgressOf request (progress.Log writing) =
    IsAsked request (Ok asks.Log) × (now : ℕ) × (stand : InstanceState) × (writing.rows ≡ log_in_view now stand.log)
IsProgressOf request (progress.Counting state_count) = ⊥
