-- A reply that is being made is taken out, and goes on.
use Rattle.std.proofs.Common.{◌≡◌, ap, refl, subst}
use Rattle.am_api_silences.specs.declared.reply_builder.ReplyBuilder.{ReplyBuilder}
use Rattle.am_server.proofs.Calls.{given_owed}
use Rattle.am_server.proofs.Sayings.{elsewhere_lasts, making_lasts}
use Rattle.am_server.proofs.Steps.{nothing_made}
use Rattle.am_server.specs.Answered.{ForPages}
use Rattle.am_server.specs.Calls.{IsProgressOf}
use Rattle.am_server.specs.Talks.{IsGiven, IsGivenOn, KeepsBy, KeepsGone, Lasts, Rests, Stays, Talk, saying_in, waiting_in}
use Rattle.am_server.specs.Talks.Saying.{Silent}
use Rattle.am_server.specs.declared.connection_state.CallProgress.{CallProgress}
use Rattle.am_server.specs.declared.connection_state.ConnectionWork.{ConnectionWork}
use Rattle.am_server.specs.declared.connection_state.ConnectionWork.TheVariants as works
use Rattle.am_peer_auth.specs.Authenticators.{AuthPhase}
use Rattle.am_http.specs.Sessions.{SessionPhase}
use Rattle.am_http.specs.declared.request.Request.{Request}
use Rattle.am_instance.specs.InstanceStates.{InstanceState}
use Rattle.am_server.specs.Talking.{IsTakenUp}
use Rattle.am_member.specs.Lives.{IsPagingEvent}

-- a connection for which this is to be done
abbrev pub talk_with : AuthPhase → SessionPhase → ConnectionWork → Talk
talk_with auth_phase session work = record { auth_phase = auth_phase; session = session; waiting = waiting_in work; saying = saying_in work }

-- (nothing else is left to be done meanwhile)
pub list_taken_up : (auth_phase : AuthPhase) (session : SessionPhase) (work left : ConnectionWork) (old new : InstanceState) (next : Talk) (making : ReplyBuilder) →
    left ≡ works.Nothing → works.Building making ≡ work → new ≡ old → Stays (talk_with auth_phase session left) next →
    KeepsBy making (saying_in left) next.saying → IsTakenUp (waiting_in work) old (talk_with auth_phase session work) new next
list_taken_up auth_phase session work left old new next making emptied is same stays by =
    subst (λ (w : ConnectionWork). IsTakenUp (waiting_in w) old (talk_with auth_phase session w) new next) is (record {
      pages = record {
        steps = nothing_made IsPagingEvent old new same;
        lasts = making_lasts making (talk_with auth_phase session (works.Building making)) next refl
            (subst (λ (w : ConnectionWork). Stays (talk_with auth_phase session w) next) emptied stays)
            (subst (λ (w : ConnectionWork). KeepsBy making (saying_in w) next.saying) emptied by);
      };
      given = tt;
    })

-- ---- an answer that isn't about silences

module _ (auth_phase : AuthPhase) (session : SessionPhase) (work left : ConnectionWork) (old new : InstanceState) (next : Talk) (call : CallProgress) (emptied : left ≡ works.Nothing)
    (is : works.Call call ≡ work) (rests : Rests (talk_with auth_phase session left) next) (gone : KeepsGone (saying_in left) next.saying)
    (given : (request : Request) → saying_in left ≡ Silent → IsProgressOf request call → IsGiven request old new next.saying) where
  given_then : (request : Request) → IsProgressOf request call → IsGiven request old new next.saying
  given_then request came = given request (ap saying_in emptied) came

  went_on : Lasts (talk_with auth_phase session (works.Call call)) next
  went_on = elsewhere_lasts call (talk_with auth_phase session (works.Call call)) next refl refl
      (subst (λ (w : ConnectionWork). Rests (talk_with auth_phase session w) next) emptied rests)
      (subst (λ (w : ConnectionWork). KeepsGone (saying_in w) next.saying) emptied gone)
      (λ request came. given_owed request old new next.saying (given_then request came))

  -- it goes on
  pub call_lasts : Lasts (talk_with auth_phase session work) next
  call_lasts = subst (λ (w : ConnectionWork). Lasts (talk_with auth_phase session w) next) is went_on

  -- it is given, or comes further
  pub call_given : IsGivenOn old (saying_in work) new next.saying
  call_given = subst (λ (w : ConnectionWork). IsGivenOn old (saying_in w) new next.saying) is given_then

  -- it goes on in its place in the line
  pub call_taken_up : ForPages old new → IsTakenUp (waiting_in work) old (talk_with auth_phase session work) new next
  call_taken_up steps = subst (λ (w : ConnectionWork). IsTakenUp (waiting_in w) old (talk_with auth_phase session w) new next) is
      (record { pages = record { steps = steps; lasts = went_on }; given = given_then })
