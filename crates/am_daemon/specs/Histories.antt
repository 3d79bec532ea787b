-- The calls of a member, one after another, and the frames that their steps send.
use Rattle.std.specs.Prelude.{◌≡◌, ◌⊎◌, ℕ, List, [], ◌∷◌, Option, Ok}
use Rattle.std.specs.List.{Contains}
use Rattle.am_api_decisions.specs.Noticing.{IsNoticed}
use Rattle.am_api_decisions.specs.declared.notice.Notice.{Notice}
use Rattle.am_api_silences.specs.Answers.{WhenMade}
use Rattle.am_api_silences.specs.declared.answering.PendingAnswer.{PendingAnswer}
use Rattle.am_daemon.specs.Sending.{MayTick}
use Rattle.am_gossip.specs.declared.frame.Frame.{Frame}
use Rattle.am_http.specs.Sessions.{Spoken}
use Rattle.am_instance.specs.InstanceStates.{InstanceState}
use Rattle.am_instance.specs.OneStep.{IsStep}
use Rattle.am_instance.specs.Sendings.{Sent, sent_by}
use Rattle.am_instance.specs.declared.event.Event.TheVariants as events
use Rattle.am_instance.specs.declared.reply.Outcome.{Outcome}
use Rattle.am_member.specs.Exchanging.{IsSessionAnswer}
use Rattle.am_member.specs.declared.session_answer.SessionAnswer.{SessionAnswer}
use Rattle.am_reactor.specs.Deeds.{Deed}
use Rattle.am_reactor.specs.History.{IsCall}
use Rattle.am_reactor.specs.declared.service.Service.{Ghosts as Service}

-- a call of a service: for no session, for the session of one connection, or one that begins a session
abbrev pub IsAnyCall : {S T : Type 0} → Service S T → S → S → Type 0
IsAnyCall {S} {T} law service service' = IsCall law service service'
    ⊎ (((session : T) × (deed : Deed) × (session' : T) × law.does service session deed service' session')
    ⊎ ((session : T) × law.begins service session service'))

-- such calls, one after another: these are the services in between
abbrev pub AreCalls : {S T : Type 0} → Service S T → S → List S → S → Type 0
AreCalls law service [] service' = IsAnyCall law service service'
AreCalls law service (next ∷ rest) service' = IsAnyCall law service next × AreCalls law next rest service'

-- Steps of what a connection said, of a notice, or of an Alertmanager's frame were made, and this is all that they send.
abbrev pub AreSentBetween : Sent → InstanceState → InstanceState → Type 0
AreSentBetween sent old new =
    ((name : Option (List ℕ)) × (bits : ℕ) × (now : ℕ) × (said : Spoken) × (answer : SessionAnswer) × IsSessionAnswer name bits now said old new answer
    × (sent ≡ answer.effects.outbox))
    ⊎ (((now : ℕ) × (notice : Notice) × (answer : PendingAnswer) × WhenMade (λ answered. IsNoticed now notice old answered new) answer
    × (sent ≡ answer.outbox))
    ⊎ ((ticked : InstanceState) × (came : ℕ × Frame) × (now : ℕ) × (outcome : Outcome) × MayTick old ticked
    × IsStep ticked (events.Frame came.0 came.1) now (Ok outcome) new × (sent ≡ sent_by outcome)))

-- such steps send this frame to this place
abbrev pub IsSentBetween : ℕ × Frame → InstanceState → InstanceState → Type 0
IsSentBetween queued old new = (sent : Sent) × AreSentBetween sent old new × Contains sent.frames queued

-- the steps of one of the calls send it
abbrev pub IsSentIn : {S : Type 0} → (S → InstanceState) → ℕ × Frame → S → List S → S → Type 0
IsSentIn instance_of queued service [] service' = IsSentBetween queued (instance_of service) (instance_of service')
IsSentIn instance_of queued service (next ∷ rest) service' = IsSentBetween queued (instance_of service) (instance_of next) ⊎ IsSentIn instance_of queued next rest service'
