-- The outcomes of calls, and what is replied then.
use Rattle.std.proofs.Common.{◌≡◌, ◌∙◌, ℕ, Option, Some, Ok, sym, subst}
use Rattle.am_api_decisions.specs.ParsedCalls.{IsAsked}
use Rattle.am_api_decisions.specs.declared.parsed_call.ParsedCall.TheVariants as asks
use Rattle.am_api_decisions.specs.declared.parsed_call.Question.{Question}
use Rattle.am_api_silences.specs.ReplyBuilder.{IsMadeOf}
use Rattle.am_api_silences.specs.declared.reply_builder.ReplyBuilder.{ReplyBuilder}
use Rattle.am_api_silences.specs.declared.replies.ResponseBytes.{ResponseBytes}
use Rattle.am_server.proofs.Calls.{away_replied, made_given, put_given, question_replied, same_given, told_given}
use Rattle.am_server.specs.Calls.{AnswersQuestion, CallCause, IsOnly, WhenTold}
use Rattle.am_server.specs.Calls.CallCause.{TooManyWait}
use Rattle.am_server.specs.Talks.{IsCallReply, IsReplyTo, KeepsBy, KeepsIf, Saying, put_next}
use Rattle.am_server.specs.declared.connection_state.CallProgress.{CallProgress}
use Rattle.am_server.specs.declared.connection_state.CallProgress.TheVariants as progress
use Rattle.am_http.specs.Lines.{line_seen}
use Rattle.am_http.specs.declared.refusal.Refusal.{Refusal}
use Rattle.am_http.specs.declared.request.Request.{Request}
use Rattle.am_instance.specs.InstanceStates.{InstanceState}
use Rattle.am_daemon.specs.Calling.{Follows, GivesOrWaits, IsCalled, IsPutOff, IsTurnedAwayFor}
use Rattle.am_daemon.specs.declared.member.deciding.Called.{Called}
use Rattle.am_daemon.specs.declared.member.deciding.Called.TheVariants as outcomes

-- ---- what is replied

pub nothing_follows : (old new : Saying) → new ≡ old → Follows outcomes.Nothing old new
nothing_follows old new same request start end silent called = same_given request start end old new silent same

pub later_follows : (call : CallProgress) (old new : Saying) → new ≡ put_next call old → Follows (outcomes.Later call) old new
later_follows call old new puts request start end silent called = put_given call request start end old new silent puts called

pub refused_follows : (refusal : Refusal) (old new : Saying) → KeepsIf (λ owed. WhenTold (IsReplyTo owed) (line_seen refusal)) old new → Follows (outcomes.Refused refusal) old new
refused_follows refusal old new told request start end silent called = told_given request (line_seen refusal) start end old new silent told called

pub made_follows : (making : ReplyBuilder) (changes : ℕ) (old new : Saying) → KeepsBy making old new → Follows (outcomes.Made making changes) old new
made_follows making changes old new by request start end silent called = made_given request making start end old new silent by called

-- ---- outcomes

-- a call that is turned away
pub away_called : (request : Request) (cause : CallCause) (old : InstanceState) (called : Called) (new : InstanceState) → IsTurnedAwayFor cause called → IsCalled request old called new
away_called request cause old outcomes.Nothing new is = absurd is
away_called request cause old (outcomes.Later call) new is = absurd is
away_called request cause old (outcomes.Refused refusal) new is = away_replied request cause (line_seen refusal) old new is
away_called request cause old (outcomes.Made making changes) new is = absurd is

-- a call that waits, or too many do
pub put_off_called : (request waits : Request) (old : InstanceState) (called : Called) (new : InstanceState) → waits ≡ request → IsPutOff waits called → IsCalled request old called new
put_off_called request waits old outcomes.Nothing new same is = absurd is
put_off_called request waits old (outcomes.Later (progress.Turn turn)) new same is = is ∙ same
put_off_called request waits old (outcomes.Later (progress.Due due)) new same is = absurd is
put_off_called request waits old (outcomes.Later (progress.Deciding it)) new same is = absurd is
put_off_called request waits old (outcomes.Later (progress.Log writing)) new same is = absurd is
put_off_called request waits old (outcomes.Later (progress.Counting state_count)) new same is = absurd is
put_off_called request waits old (outcomes.Refused refusal) new same is = away_replied request TooManyWait (line_seen refusal) old new is
put_off_called request waits old (outcomes.Made making changes) new same is = absurd is

-- a decision that is given, or whose request waits
module _ (request : Request) (question : Question) (start : InstanceState) (reply : ResponseBytes) (unheard : Option Request) (new : InstanceState)
    (asked : IsAsked request (Ok (asks.Decide question))) (only : IsOnly request unheard) where
  waits_called : (called : Called) → ((other : Request) × (unheard ≡ Some other) × IsPutOff other called) → IsCalled request start called new
  waits_called called waits = put_off_called request waits.0 start called new (subst (IsOnly request) waits.1 only) waits.2

  pub given_called : (called : Called) → AnswersQuestion question start reply new → GivesOrWaits reply unheard called → IsCalled request start called new
  given_called outcomes.Nothing answers waits = waits_called outcomes.Nothing waits
  given_called (outcomes.Later call) answers waits = waits_called (outcomes.Later call) waits
  given_called (outcomes.Refused refusal) answers waits = waits_called (outcomes.Refused refusal) waits
  given_called (outcomes.Made making changes) answers gives = λ other made.
      let same : other ≡ reply = subst (λ (m : ReplyBuilder). IsMadeOf m other) gives made in
      subst (λ (r : ResponseBytes). IsCallReply request start r new) (sym same) (question_replied request question start reply new asked answers)

-- the request waits that is still unheard
pub put_off_waits : (reply : ResponseBytes) (unheard : Option Request) (request : Request) (called : Called) → unheard ≡ Some request → IsPutOff request called →
    GivesOrWaits reply unheard called
put_off_waits reply unheard request outcomes.Nothing some is = absurd is
put_off_waits reply unheard request (outcomes.Later call) some is = (request, some, is)
put_off_waits reply unheard request (outcomes.Refused refusal) some is = (request, some, is)
put_off_waits reply unheard request (outcomes.Made making changes) some is = absurd is
