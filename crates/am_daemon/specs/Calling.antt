-- The outcomes of calls of programs that send pages.
use Rattle.std.specs.Prelude.{◌≡◌, Option, Some, ⊤}
use Rattle.am_api_silences.specs.ReplyBuilder.{Makes}
use Rattle.am_api_silences.specs.declared.reply_builder.ReplyBuilder.TheVariants.{Whole}
use Rattle.am_api_silences.specs.declared.replies.ResponseBytes.{ResponseBytes}
use Rattle.am_server.specs.Calls.{CallCause, IsProgressOf, WhenTold, call_line}
use Rattle.am_server.specs.Calls.CallCause.{TooManyWait}
use Rattle.am_server.specs.Talks.{IsCallReply, IsGiven, Saying}
use Rattle.am_server.specs.Talks.Saying.{Silent}
use Rattle.am_server.specs.Waiting.{request_of}
use Rattle.am_server.specs.declared.connection_state.CallProgress.TheVariants.{Turn as InTurn}
use Rattle.am_http.specs.Lines.{line_seen}
use Rattle.am_http.specs.declared.request.Request.{Request}
use Rattle.am_instance.specs.InstanceStates.{InstanceState}
use Rattle.am_daemon.specs.declared.member.deciding.Called.{Called}
use Rattle.am_daemon.specs.declared.member.deciding.Called.TheVariants as outcomes

-- The outcome is the answer to the request, between these states, or how far that has come.
abbrev pub IsCalled : Request → InstanceState → Called → InstanceState → Type 0
IsCalled request old outcomes.Nothing new = ⊤
IsCalled request old (outcomes.Later call) new = IsProgressOf request call
IsCalled request old (outcomes.Refused refusal) new = WhenTold (λ reply. IsCallReply request old reply new) (line_seen refusal)
IsCalled request old (outcomes.Made making changes) new = Makes (λ reply. IsCallReply request old reply new) making

-- The call is turned away for this cause.
abbrev pub IsTurnedAwayFor : CallCause → Called → Type 0
IsTurnedAwayFor cause (outcomes.Refused refusal) = line_seen refusal ≡ call_line cause
IsTurnedAwayFor cause _ = ⊥

-- The request waits, or too many do.
abbrev pub IsPutOff : Request → Called → Type 0
IsPutOff request (outcomes.Later (InTurn turn)) = request_of turn ≡ request
IsPutOff request (outcomes.Refused refusal) = line_seen refusal ≡ call_line TooManyWait
IsPutOff request _ = ⊥

-- The reply is given, or the request waits that is still unheard.
abbrev pub GivesOrWaits : ResponseBytes → Option Request → Called → Type 0
GivesOrWaits reply unheard (outcomes.Made making changes) = making ≡ Whole reply
GivesOrWaits reply unheard called = (request : Request) × (unheard ≡ Some request) × IsPutOff request called

-- If nothing was replied before, what is replied to a call follows from its outcome, between the same states.
abbrev pub Follows : Called → Saying → Saying → Type 0
Follows called old new = (request : Request) (start : InstanceState) (end : InstanceState) → old ≡ Silent → IsCalled request start called end → IsGiven request start end new
