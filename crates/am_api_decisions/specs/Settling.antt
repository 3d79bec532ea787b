-- The answer to a decision, once all alerts of its group have been asked.
use Rattle.std.specs.Prelude.{◌≡◌, ◌⊎◌, ◌&&◌, ◌==◌, ◌*◌, ℕ, Bool, true, false, List, [], length, map, Option, Some, None, Result, Ok, Err}
use Rattle.am_dedup.specs.declared.decision.Decision.{Decision}
use Rattle.am_dedup.specs.declared.decision.Decision.TheVariants.{Skip, Notify}
use Rattle.am_api_decisions.specs.Answers.{answer_data}
use Rattle.am_api_decisions.specs.declared.answer.DecisionReply.{DecisionReply}
use Rattle.am_api_decisions.specs.declared.answer.Why.{Why}
use Rattle.am_api_decisions.specs.declared.answer.Why.TheVariants as whys
use Rattle.am_http.specs.Lines.{RefusalLine}
use Rattle.am_instance.specs.InstanceStates.{InstanceState}
use Rattle.am_instance.specs.OneStep.{IsStep}
use Rattle.am_gossip.specs.declared.refusals.StepError.{StepError}
use Rattle.am_instance.specs.declared.event.Event.{Event}
use Rattle.am_instance.specs.declared.event.Event.TheVariants as events
use Rattle.am_instance.specs.declared.reply.Outcome.{Outcome}
use Rattle.am_instance.specs.declared.reply.Reply.{Reply}
use Rattle.am_instance.specs.declared.reply.Reply.TheVariants as replies
use Rattle.am_nflog.specs.declared.receiver.Receiver.{Receiver}
use Rattle.serde_json.specs.Written.{compact_text}
use Rattle.am_silence_json.specs.Written.{WritesMoment}
use Rattle.am_api_silences.specs.ReplyBuilder.{IsNoMemory}
use Rattle.am_api_silences.specs.Replies.{Says, good_bytes, line_bytes}
use Rattle.am_api_silences.specs.declared.replies.ResponseBytes.{ResponseBytes}
use Rattle.am_api_decisions.specs.Asking.{AskedAlert, Counted, IsAskedOn, IsStopped, counted_with, silenced_in, unasked}
use Rattle.am_api_decisions.specs.Deciding.{Underway}
use Rattle.am_api_decisions.specs.Lines.{error_line}
use Rattle.am_api_decisions.specs.declared.group.Group.{Group}
use Rattle.am_api_decisions.specs.declared.settling.Judgement.{Judgement}
use Rattle.am_api_decisions.specs.declared.settling.Judgement.TheVariants.{Whole, Partial}
use Rattle.am_api_decisions.specs.declared.timing.Timing.{Timing}

-- the receiver as the log knows it: that of the message, with the integration of the terms
abbrev pub receiver_of : Group → Receiver
receiver_of group = record { group_name = group.receiver; integration = group.terms.integration; idx = group.terms.index }

-- All alerts are muted.
abbrev pub has_none : Counted → Bool
has_none counted = (length counted.firing == 0) && (length counted.resolved == 0)

-- the question about a group's alerts that no silence mutes
abbrev pub decide_event : Group → Counted → Event
decide_event group counted =
    events.Decide group.group_key (receiver_of group) counted.firing counted.resolved (group.terms.repeat.seconds * 1_000_000_000)
    group.terms.send_resolved

-- the reason that a group is notified, or isn't: if it is, and not every alert was held against the silences, that is the reason
abbrev pub why_of : Judgement → Decision → Why
why_of judgement Skip = whys.Skip
why_of Whole (Notify reason) = whys.Notify reason
why_of Partial (Notify reason) = whys.Unjudged

-- The group is to be notified.
abbrev pub is_notified : Why → Bool
is_notified (whys.Notify reason) = true
is_notified whys.Unjudged = true
is_notified whys.Skip = false
is_notified whys.Muted = false

-- The answer says what is decided of a group, and why.
pub record IsAnswerOf (timing : Timing) (group : Group) (counted : Counted) (why : Why) (answer : DecisionReply) : Type 0 where
  pub decided_at : WritesMoment timing.now answer.decided_at
  pub turn_seconds : answer.turn_seconds ≡ timing.turn_seconds
  pub firing : answer.firing ≡ counted.firing
  pub resolved : answer.resolved ≡ counted.resolved
  pub muted : map silenced_in answer.muted.items ≡ counted.muted
  pub notify : answer.notify ≡ is_notified why
  pub reason : answer.reason ≡ why
  pub group_key : answer.group_key ≡ group.group_key
  pub receiver : answer.receiver ≡ group.receiver
  pub integration : answer.integration ≡ group.terms.integration
  pub index : answer.index ≡ group.terms.index
  pub repeat : answer.repeat ≡ group.terms.repeat.seconds

-- The bytes are the reply 200 with that answer in JSON.
abbrev pub IsAnswerBytes : Timing → Group → Counted → Why → List ℕ → Type 0
IsAnswerBytes timing group counted why bytes =
    (answer : DecisionReply) × IsAnswerOf timing group counted why answer × (bytes ≡ good_bytes (compact_text (answer_data answer)))

-- The reply gives this reason; one that gives none is a line of a refusal.
abbrev pub GivesReason : Option Why → ResponseBytes → Type 0
GivesReason (Some why) reply =
    Says (λ bytes. (answer : DecisionReply) × (answer.reason ≡ why) × (bytes ≡ good_bytes (compact_text (answer_data answer)))) reply
GivesReason None reply = Says (λ bytes. (line : RefusalLine) × (bytes ≡ line_bytes line)) reply

-- The bytes say what a step decided.
abbrev pub IsDecisionBytes : Judgement → Timing → Group → Counted → Reply → List ℕ → Type 0
IsDecisionBytes judgement timing group counted (replies.Decided decision) bytes = IsAnswerBytes timing group counted (why_of judgement decision) bytes
IsDecisionBytes judgement timing group counted _ bytes = ⊥

-- The reply says what the step decided, or why it was refused.
abbrev pub TellsDecision : Judgement → Timing → Group → Counted → Result Outcome StepError → ResponseBytes → Type 0
TellsDecision judgement timing group counted (Ok outcome) reply = Says (IsDecisionBytes judgement timing group counted outcome.reply) reply
TellsDecision judgement timing group counted (Err error) reply = Says (λ bytes. bytes ≡ line_bytes (error_line error)) reply

-- No step is made, and the reply says that all alerts are muted.
pub record IsMutedWhole (timing : Timing) (group : Group) (counted : Counted) (old : InstanceState) (reply : ResponseBytes) (new : InstanceState) : Type 0 where
  pub says : Says (IsAnswerBytes timing group counted whys.Muted) reply
  pub same : new ≡ old

-- One step decides over the alerts that no silence mutes, and the reply says what it decided; or there was no memory for its
-- event.
abbrev pub IsDecidedByStep : Judgement → Timing → Group → Counted → InstanceState → ResponseBytes → InstanceState → Type 0
IsDecidedByStep judgement timing group counted old reply new = (IsNoMemory reply × (new ≡ old))
    ⊎ ((step : Result Outcome StepError) × IsStep old (decide_event group counted) timing.now step new
    × TellsDecision judgement timing group counted step reply)

-- A group is answered, by whether all its alerts are muted.
abbrev pub IsSettledBy : Bool → Judgement → Timing → Group → Counted → InstanceState → ResponseBytes → InstanceState → Type 0
IsSettledBy true judgement timing group counted old reply new = IsMutedWhole timing group counted old reply new
IsSettledBy false judgement timing group counted old reply new = IsDecidedByStep judgement timing group counted old reply new

-- A group with this tally is answered: if every alert is muted, no step is made; else one step decides.
abbrev pub IsSettled : Judgement → Timing → Group → Counted → InstanceState → ResponseBytes → InstanceState → Type 0
IsSettled judgement timing group counted old reply new = IsSettledBy (has_none counted) judgement timing group counted old reply new

-- All alerts that were left were asked, and then the group is answered.
pub record IsDecidedOverAll (timing : Timing) (before : Underway) (old : InstanceState) (reply : ResponseBytes) (new : InstanceState) : Type 0 where
  pub asked : List AskedAlert
  pub counted : Counted
  pub mid : InstanceState
  pub all : IsAskedOn timing.now before.left before.counted old asked [] counted mid
  pub settled : IsSettled Whole timing before.group counted mid reply new

-- Asking stopped at one of the alerts that were left, and the reply says why.
pub record IsCutOff (now : ℕ) (before : Underway) (old : InstanceState) (reply : ResponseBytes) (new : InstanceState) : Type 0 where
  pub line : RefusalLine
  pub stopped : IsStopped now before.left old line new
  pub says : Says (λ bytes. bytes ≡ line_bytes line) reply

-- A decision that is broken off is answered: the alerts that are left count as if no silence muted them; or there was no memory
-- to count them.
abbrev pub IsBrokenOff : Timing → Underway → InstanceState → ResponseBytes → InstanceState → Type 0
IsBrokenOff timing before old reply new = (IsNoMemory reply × (new ≡ old))
    ⊎ IsSettled Partial timing before.group (counted_with before.counted (map unasked before.left)) old reply new

-- A decision is answered: that over all alerts, or why not all were asked.
abbrev pub IsDecided : Timing → Underway → InstanceState → ResponseBytes → InstanceState → Type 0
IsDecided timing before old reply new = IsDecidedOverAll timing before old reply new ⊎ IsCutOff timing.now before old reply new
