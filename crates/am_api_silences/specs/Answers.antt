-- The answer to a request, by one step or none.
use Rattle.std.specs.Prelude.{◌≡◌, ℕ, List, Result, IfOk, IfErr, OnErr}
use Rattle.am_http.specs.Lines.{line_seen}
use Rattle.am_http.specs.declared.refusal.Refusal.{Refusal}
use Rattle.am_http.specs.declared.request.Request.{Request}
use Rattle.am_instance.specs.declared.event.Event.{Event}
use Rattle.am_gossip.specs.declared.refusals.StepError.{StepError}
use Rattle.am_gossip.specs.declared.refusals.StepError.TheVariants.{MomentBack}
use Rattle.am_instance.specs.declared.reply.Outcome.{Outcome}
use Rattle.am_instance.specs.Sendings.{Sent, nothing_sent, sent_by}
use Rattle.am_instance.specs.InstanceStates.{InstanceState}
use Rattle.am_api_silences.specs.Events.{IsEventIn}
use Rattle.am_api_silences.specs.Replies.{IsReplyBytes, Says, line_bytes}
use Rattle.am_instance.specs.OneStep.{IsStep}
use Rattle.am_api_silences.specs.Table.{clock_line, memory_line}
use Rattle.am_api_silences.specs.ReplyBuilder.{Makes}
use Rattle.am_api_silences.specs.declared.answering.Answered.{Answered as Whole}
use Rattle.am_api_silences.specs.declared.answering.PendingAnswer.{PendingAnswer}
use Rattle.am_api_silences.specs.declared.replies.ResponseBytes.{ResponseBytes}

-- the answer to a request: its reply, once that is whole, and what its step sends
pub record Answered : Type 0 where
  pub reply : ResponseBytes
  pub sent : Sent

-- the answer that the code returns
abbrev pub answer_in : Whole → Answered
answer_in whole = record {
  reply = whole.reply;
  sent = record { frames = whole.frames.items; memory = whole.unsent.memory; limit = whole.unsent.limit };
}

-- the bytes that tell of a refused step: a request names no peer and brings no rows, so the fault is the moment or else memory
abbrev pub IsErrorBytes : StepError → List ℕ → Type 0
IsErrorBytes (MomentBack last) bytes = bytes ≡ line_bytes clock_line
IsErrorBytes _ bytes = bytes ≡ line_bytes memory_line

-- the answer if no step is made, and what that leaves of the instance
pub record IsRefusalAnswer (refusal : Refusal) (old : InstanceState) (answered : Answered) (new : InstanceState) : Type 0 where
  -- the refusal is told
  pub says : Says (λ bytes. bytes ≡ line_bytes (line_seen refusal)) answered.reply
  -- nothing is sent
  pub sent : answered.sent ≡ nothing_sent
  -- the instance is as it was
  pub same : new ≡ old

-- the answer by the step of an event, and what that leaves of the instance
pub record IsStepAnswer (event : Event) (old : InstanceState) (now : ℕ) (answered : Answered) (new : InstanceState) : Type 0 where
  -- one step is made
  pub step : Result Outcome StepError
  pub made : IsStep old event now step new
  -- its reply is told
  pub replied : IfOk step (λ outcome. Says (IsReplyBytes outcome.reply) answered.reply)
  -- its frames are handed on
  pub sent : IfOk step (λ outcome. answered.sent ≡ sent_by outcome)
  -- if the step is refused, the cause is told
  pub refused : IfErr step (λ error. Says (IsErrorBytes error) answered.reply)
  -- nothing is sent then
  pub unsent : OnErr step (answered.sent ≡ nothing_sent)

-- the answer to a request, and what that leaves of the instance
pub record IsRequestAnswer (old : InstanceState) (request : Request) (bits now : ℕ) (answered : Answered) (new : InstanceState) : Type 0 where
  -- the request means an event, or this refusal
  pub meant : Result Event Refusal
  pub means : IsEventIn old.config.dialect request bits meant
  -- a refusal is told, and nothing else is done
  pub refused : IfErr meant (λ refusal. IsRefusalAnswer refusal old answered new)
  -- an event is one step, which is answered
  pub stepped : IfOk meant (λ event. IsStepAnswer event old now answered new)

-- ---- an answer whose reply is in the making

-- the answer that this one becomes with a reply
abbrev pub with_reply : PendingAnswer → ResponseBytes → Answered
with_reply begun reply = record { reply = reply; sent = begun.outbox }

-- whatever reply this answer is finished with, it becomes such an answer
abbrev pub WhenMade : (Answered → Type 0) → PendingAnswer → Type 0
WhenMade IsSuch begun = Makes (λ reply. IsSuch (with_reply begun reply)) begun.making
