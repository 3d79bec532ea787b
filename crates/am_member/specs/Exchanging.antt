-- The answer to what a connection says: to its request, or the steps of its frames.
use Rattle.std.specs.Prelude.{◌≡◌, ◌≢◌, ℕ, Bool, true, false, List, [], Option, None, Some, option_map, Result, Ok, Err, OnOk, IfErr}
use Rattle.am_api_silences.specs.declared.answering.PendingAnswer.{PendingAnswer}
use Rattle.am_api_silences.specs.Answers.{Answered, IsRefusalAnswer, IsRequestAnswer, WhenMade}
use Rattle.am_api_silences.specs.Events.{IsCall}
use Rattle.am_gossip.specs.declared.frame.Frame.{Frame}
use Rattle.am_http.specs.declared.cause.Cause.{Cause}
use Rattle.am_http.specs.declared.request.Read.{Read}
use Rattle.am_http.specs.declared.request.Read.TheVariants.{More, Whole, Refused}
use Rattle.am_http.specs.declared.routes.Call.{Call}
use Rattle.am_http.specs.declared.routes.Call.TheVariants.{List as ListCall}
use Rattle.am_instance.specs.Configs.{Settings}
use Rattle.am_instance.specs.InstanceStates.{InstanceState}
use Rattle.am_http.specs.declared.session.fault.SessionFault.{SessionFault}
use Rattle.am_http.specs.declared.session.fault.SessionFault.TheVariants as session_faults
use Rattle.am_http.specs.Sessions.{Spoken, SessionPhase, name_of, over}
use Rattle.am_member.specs.declared.session_answer.SessionAnswer.{SessionAnswer}
use Rattle.am_peers.specs.declared.fault.ConnectionFault.{ConnectionFault}
use Rattle.am_peers.specs.declared.fault.ConnectionFault.TheVariants.{TooLarge, Frame as InFrame, UnknownName, Step}
use Rattle.am_member.specs.Incoming.{IsOnlyPeerOf, IsPeerOf, MakesAll, SoFar, StopsAt, no_effects, so_far}

-- ---- a request

-- nothing was answered, and no step was made
pub record IsUntouched (old new : InstanceState) (answer : SessionAnswer) : Type 0 where
  pub same : new ≡ old
  pub reply : answer.reply ≡ None
  pub nothing : answer.effects ≡ no_effects
  pub no_fault : answer.fault ≡ None

-- such an answer is handed on
pub record IsReplied (IsSuch : Answered → Type 0) (answer : SessionAnswer) : Type 0 where
  -- whatever its reply is finished with, it is such an answer
  pub begun : PendingAnswer
  pub such : WhenMade IsSuch begun
  -- its reply is handed on
  pub reply : answer.reply ≡ Some begun.making
  -- its frames are sent, and no Tick was among its steps
  pub effects : answer.effects ≡ record { outbox = begun.outbox; ticked = false }
  -- the connection is not at fault
  pub no_fault : answer.fault ≡ None

-- the input that was read is answered: a request by what it means, anything else by the reason why it is refused; nothing is
-- answered if it decides nothing yet
abbrev pub IsReadAnswer : Read → ℕ → ℕ → InstanceState → InstanceState → SessionAnswer → Type 0
IsReadAnswer (Whole request) bits now old new answer = IsReplied (λ answered. IsRequestAnswer old request bits now answered new) answer
IsReadAnswer (Refused refusal) bits now old new answer = IsReplied (λ answered. IsRefusalAnswer refusal old answered new) answer
IsReadAnswer More bits now old new answer = IsUntouched old new answer

-- ---- frames

-- the frames are from the one peer that the greeting names; if no greeting came, there is no frame
abbrev pub AreFrom : Settings → Option (List ℕ) → List Frame → ℕ → Type 0
AreFrom config None frames sender = frames ≡ []
AreFrom config (Some name) frames sender = IsOnlyPeerOf config name sender

-- the frames are from no peer: the greeting names none; or frames came and no greeting, which no session says
abbrev pub IsFromNobody : Settings → Option (List ℕ) → List Frame → Type 0
IsFromNobody config None frames = frames ≢ []
IsFromNobody config (Some name) frames = (place : ℕ) → ¬ IsPeerOf config name place

-- the frames of a connection with this name did this: each step was made; or one is refused; or no peer has the name
abbrev pub AreStepped : Option (List ℕ) → ℕ → List Frame → SoFar → SoFar → Result Unit ConnectionFault → Type 0
AreStepped name now frames before after (Ok _) =
    (sender : ℕ) × AreFrom before.instance.config name frames sender × MakesAll sender now frames before after
AreStepped name now frames before after (Err (Step error)) =
    (sender : ℕ) × AreFrom before.instance.config name frames sender × StopsAt sender now frames before after error
AreStepped name now frames before after (Err UnknownName) = IsFromNobody before.instance.config name frames × (after ≡ before)
AreStepped name now frames before after (Err _) = ⊥

-- the fault of a session as one of its connection
abbrev pub fault_heard : SessionFault → ConnectionFault
fault_heard session_faults.TooLarge = TooLarge
fault_heard (session_faults.Frame error) = InFrame error

-- the answer to frames, after which the session is at fault or goes on
pub record AreHeard (name : Option (List ℕ)) (now : ℕ) (frames : List Frame) (fault : Option SessionFault) (old new : InstanceState) (answer : SessionAnswer) : Type 0 where
  -- nothing is replied
  pub silent : answer.reply ≡ None
  -- each is a step, up to the first that can't be made
  pub steps : Result Unit ConnectionFault
  pub stepped : AreStepped name now frames (so_far old no_effects) (so_far new answer.effects) steps
  -- if all are made, the session's own fault is told
  pub all : OnOk steps (answer.fault ≡ option_map fault_heard fault)
  -- else the reason is told why one can't be made
  pub stop : IfErr steps (λ stop. answer.fault ≡ Some stop)

-- ---- all that is said

-- the answer to what a connection with this name said (a session never says both a request and frames)
pub record IsSessionAnswer (name : Option (List ℕ)) (bits now : ℕ) (said : Spoken) (old new : InstanceState) (answer : SessionAnswer) : Type 0 where
  -- a request is answered
  pub asked : (read : Read) → said.request ≡ Some read → IsReadAnswer read bits now old new answer
  -- otherwise the frames are stepped
  pub heard : said.request ≡ None → AreHeard name now said.frames said.fault old new answer

-- true if nothing more is heard of a connection, because its peer is unknown or a step of it was refused
abbrev pub is_stopped : Option ConnectionFault → Bool
is_stopped (Some UnknownName) = true
is_stopped (Some (Step error)) = true
is_stopped _ = false

-- the phase of a session after a fault, or without one
abbrev pub left_at : Option ConnectionFault → SessionPhase → SessionPhase
left_at (Some UnknownName) session_phase = over (name_of session_phase)
left_at (Some (Step error)) session_phase = over (name_of session_phase)
left_at _ session_phase = session_phase

-- ---- expensive requests

-- true if a call is for a list
abbrev pub is_list : Result Call Cause → Bool
is_list (Ok (ListCall query)) = true
is_list _ = false

-- true if what was read is a whole request for a list
abbrev pub IsListRequest : Read → Bool → Type 0
IsListRequest (Whole request) dear = (call : Result Call Cause) × IsCall request call × (dear ≡ is_list call)
IsListRequest _ dear = dear ≡ false
