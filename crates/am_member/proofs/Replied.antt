-- The replies of a turn, by what is shown.
use Rattle.std.proofs.Common.{◌≡◌, ◌≤◌, inl, inr, ℕ, true, List, Result, Ok, Err, IfOk, IfErr}
use Rattle.am_silence.specs.Mesh.{Mesh}
use Rattle.am_nflog.specs.Mesh.{Mesh as LogMesh}
use Rattle.am_http.specs.declared.refusal.Refusal.{Refusal}
use Rattle.am_http.specs.declared.request.Request.{Request}
use Rattle.am_matcher.specs.declared.dialect.Dialect.{Dialect}
use Rattle.am_instance.specs.Bare.{IsBareReply, asks_shown}
use Rattle.am_instance.specs.InstanceStates.{InstanceState}
use Rattle.am_instance.specs.OneStep.{IsStep}
use Rattle.am_instance.specs.Replies.{IsReply}
use Rattle.am_gossip.specs.declared.refusals.StepError.{StepError}
use Rattle.am_gossip.specs.declared.refusals.StepError.TheVariants.{MomentBack, UnknownPeer, Frame, Memory}
use Rattle.am_instance.specs.declared.event.Event.{Event}
use Rattle.am_instance.specs.declared.reply.Made.{Made}
use Rattle.am_instance.specs.declared.reply.Outcome.{Outcome}
use Rattle.am_instance.specs.declared.reply.Reply.{Reply}
use Rattle.am_api_silences.specs.Answers.{Answered, IsErrorBytes, IsRefusalAnswer, IsRequestAnswer, IsStepAnswer, with_reply}
use Rattle.am_api_silences.specs.Replies.{IsReplyBytes, Says}
use Rattle.am_api_silences.specs.declared.replies.ResponseBytes.{ResponseBytes}
use Rattle.am_api_silences.specs.declared.replies.ResponseBytes.TheVariants.{Own, Fixed}
use Rattle.am_member.specs.declared.session_answer.SessionAnswer.{SessionAnswer}
use Rattle.am_member.specs.Exchanging.{IsReadAnswer}
use Rattle.am_http.specs.declared.request.Read.TheVariants.{Whole}
use Rattle.am_member.specs.Lives.{IsBareAnswer, IsBareBytes, RepliesBare}

weaker : (IsMeant Other : List ℕ → Type 0) → ((bytes : List ℕ) → IsMeant bytes → Other bytes) → (reply : ResponseBytes) → Says IsMeant reply → Says Other reply
weaker IsMeant Other less (Own bytes) says = less bytes.items says
weaker IsMeant Other less (Fixed bytes) says = says

-- what is told of a step that was refused
error_bare : (dialect : Dialect) (silences : List Mesh) (log : List LogMesh) (event : Event) (now : ℕ) (error : StepError) (bytes : List ℕ) → IsErrorBytes error bytes → IsBareBytes dialect silences log event now bytes
error_bare dialect silences log event now (MomentBack last) bytes is = inr (inl is)
error_bare dialect silences log event now UnknownPeer bytes is = inr (inr is)
error_bare dialect silences log event now (Frame fault) bytes is = inr (inr is)
error_bare dialect silences log event now (Memory taken) bytes is = inr (inr is)

-- the bare sets reply so at each moment from the last one on
abbrev pub RepliesAsSets : Dialect → List Mesh → List LogMesh → InstanceState → Type 0
RepliesAsSets dialect silences log stand = (event : Event) (now : ℕ) (reply : Reply) (made : Made) → stand.last ≤ now → asks_shown event ≡ true → IsReply stand event now reply made →
    IsBareReply dialect silences log event now reply

-- a step tells what they reply
step_bare : (dialect : Dialect) (silences : List Mesh) (log : List LogMesh) (stand new : InstanceState) (event : Event) (now : ℕ) (step : Result Outcome StepError) (reply : ResponseBytes) →
    RepliesAsSets dialect silences log stand → IsStep stand event now step new → IfOk step (λ outcome. Says (IsReplyBytes outcome.reply) reply) → IfErr step (λ error. Says (IsErrorBytes error) reply) →
    asks_shown event ≡ true → Says (IsBareBytes dialect silences log event now) reply
step_bare dialect silences log stand new event now (Ok outcome) reply sets made replied refused asks =
    weaker (IsReplyBytes outcome.reply) (IsBareBytes dialect silences log event now)
    (λ bytes is. inl (outcome.reply, sets event now outcome.reply outcome.made made.accepted.forward asks made.reply, is))
    reply replied
step_bare dialect silences log stand new event now (Err error) reply sets made replied refused asks =
    weaker (IsErrorBytes error) (IsBareBytes dialect silences log event now) (error_bare dialect silences log event now error) reply refused

meant_bare : (dialect : Dialect) (silences : List Mesh) (log : List LogMesh) (stand new : InstanceState) (meant : Result Event Refusal) (now : ℕ) (answered : Answered) →
    RepliesAsSets dialect silences log stand → IfErr meant (λ refusal. IsRefusalAnswer refusal stand answered new) → IfOk meant (λ event. IsStepAnswer event stand now answered new) →
    RepliesBare dialect silences log meant now answered.reply
meant_bare dialect silences log stand new (Ok event) now answered sets refused stepped =
    λ asks. step_bare dialect silences log stand new event now stepped.step answered.reply sets stepped.made stepped.replied stepped.refused asks
meant_bare dialect silences log stand new (Err refusal) now answered sets refused stepped = refused.says

-- the answer to a request
pub answer_bare : (silences : List Mesh) (log : List LogMesh) (stand new : InstanceState) (request : Request) (bits now : ℕ) (answer : SessionAnswer) →
    RepliesAsSets stand.config.dialect silences log stand → IsReadAnswer (Whole request) bits now stand new answer → IsBareAnswer stand.config.dialect silences log request bits now answer
answer_bare silences log stand new request bits now answer sets done = record {
  making = done.begun.making;
  is = done.reply;
  told = λ reply made.
      let answered : Answered = with_reply done.begun reply in
      let given : IsRequestAnswer stand request bits now answered new = done.such reply made in
      record { meant = given.meant; means = given.means; replied = meant_bare stand.config.dialect silences log stand new given.meant now answered sets given.refused given.stepped };
}
