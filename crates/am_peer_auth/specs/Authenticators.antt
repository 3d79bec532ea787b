-- The authenticator before the session of a connection: what of it the session hears, and which sealed frames are accepted.
use Rattle.std.specs.Prelude.{◌≡◌, ◌⊎◌, ℕ, ◌+◌, ◌<◌, ◌≤◌, List, [], ◌∷◌, ◌++◌, length, take, drop, Option, Some, None, option_map, Result, Ok, Err}
use Rattle.am_gossip.specs.declared.error.FrameError.{FrameError}
use Rattle.am_gossip.specs.declared.error.FrameError.TheVariants as frame_errors
use Rattle.am_gossip.specs.declared.frame.Frame.{Frame}
use Rattle.am_gossip.specs.Hellos.{hello_of}
use Rattle.am_http.specs.declared.session.fault.SessionFault.TheVariants.{Frame as InFrame}
use Rattle.am_http.specs.Sessions.{Spoken, SessionPhase, Feeds, heard, name_of, nothing, over, spoken}
use Rattle.am_peer_auth.specs.declared.seal.Lock.{Lock}
use Rattle.am_peer_auth.specs.declared.seal.SealError.{SealError}
use Rattle.am_peer_auth.specs.declared.sequence.Sequence.{Sequence}
use Rattle.am_peer_auth.specs.Openings.{Opens, ended}
use Rattle.am_peer_auth.specs.Sequences.{after, first_in}
use Rattle.am_peer_auth.specs.declared.fault.AuthFault.{AuthFault}
use Rattle.am_peer_auth.specs.declared.fault.AuthFault.TheVariants as gate_faults
use Rattle.am_peer_auth.specs.declared.passing.Heard.{Heard}
use Rattle.am_peer_auth.specs.declared.passing.AcceptedProtocols.{AcceptedProtocols}
use Rattle.am_peer_auth.specs.declared.passing.AcceptedProtocols.TheVariants.{Requests, Frames}
use Rattle.am_peer_auth.specs.declared.passing.AuthState.{AuthState}
use Rattle.am_peer_auth.specs.declared.passing.AuthState.TheVariants as states

-- The progress of a connection: before its first byte; passing, when everything goes to its session; in the greeting of a sealed
-- connection, with its bytes so far behind the first one; sealed, behind its greeting, with the place of the next frame behind
-- the challenge that it answers, the number of bytes of the challenge that were sent, and the bytes of a frame that isn't whole;
-- or shut, when nothing more is heard.
pub data AuthPhase : Type 0 where
  before : AuthPhase
  passing : AuthPhase
  greeting : List ℕ → AuthPhase
  sealed : Sequence → ℕ → List ℕ → AuthPhase
  shut : AuthPhase

-- the state that the code holds
abbrev pub phase_of : AuthState → AuthPhase
phase_of states.Fresh = before
phase_of states.Open = passing
phase_of (states.Greeting bytes) = greeting bytes.items
phase_of (states.Sealed sealing) = sealed sealing.place sealing.out sealing.waiting
phase_of states.Closed = shut

-- the output, and why nothing more is heard after it
pub record AuthOutput : Type 0 where
  pub said : Spoken
  pub fault : Option AuthFault

-- the output that the code returns
abbrev pub told_by : Heard → AuthOutput
told_by heard = record { said = spoken heard.said; fault = heard.fault }

-- this was said, and nothing is at fault here
abbrev pub told : Spoken → AuthOutput
told said = record { said = said; fault = None }

-- ---- the effect of a piece: the output, the progress of the connection, and its session

-- nothing was said, and the session is as it was
abbrev pub Waits : AuthPhase → SessionPhase → AuthOutput → AuthPhase → SessionPhase → Type 0
Waits next session it auth_phase session' = (it ≡ told nothing) × (auth_phase ≡ next) × (session' ≡ session)

-- the session hears the piece as it came
abbrev pub PassesOn : SessionPhase → List ℕ → AuthOutput → AuthPhase → SessionPhase → Type 0
PassesOn session piece it auth_phase session' = Feeds session piece it.said session' × (it.fault ≡ None) × (auth_phase ≡ passing)

-- nothing was said, and nothing more is heard, for this reason
abbrev pub IsTurnedBack : AuthFault → SessionPhase → AuthOutput → AuthPhase → SessionPhase → Type 0
IsTurnedBack fault session it auth_phase session' =
    (it ≡ record { said = nothing; fault = Some fault }) × (auth_phase ≡ shut) × (session' ≡ over (name_of session))

-- no frame was said, because the greeting has this fault, and nothing more is heard
abbrev pub IsFailed : FrameError → SessionPhase → AuthOutput → AuthPhase → SessionPhase → Type 0
IsFailed error session it auth_phase session' =
    (it ≡ told (heard [] (Some (InFrame error)))) × (auth_phase ≡ shut) × (session' ≡ over (name_of session))

-- ---- a sealed connection

-- the frames go on at the next place, and these bytes wait; or one isn't accepted, and nothing more is heard
abbrev pub GoesOn : Option SealError → Sequence → ℕ → List ℕ → SessionPhase → AuthPhase → SessionPhase → Type 0
GoesOn None next out rest session auth_phase session' = (auth_phase ≡ sealed next out rest) × (session' ≡ session)
GoesOn (Some error) next out rest session auth_phase session' = (auth_phase ≡ shut) × (session' ≡ over (name_of session))

-- these frames are said, and why there are no more
pub record IsKept (frames : List Frame) (error : Option SealError) (next : Sequence) (out : ℕ) (rest : List ℕ) (session : SessionPhase) (it : AuthOutput) (auth_phase : AuthPhase) (session' : SessionPhase) : Type 0 where
  pub said : it.said ≡ heard frames None
  pub fault : it.fault ≡ option_map gate_faults.Seal error
  pub goes_on : GoesOn error next out rest session auth_phase session'

-- Exactly the frames are said to which the bytes open, from this sender, from this place on: each of them follows a sum that is
-- right for its place behind the challenge, for its sender and for its receiver. The next frame has the place after them.
abbrev pub TakesSealed : Lock → List ℕ → Sequence → ℕ → SessionPhase → List ℕ → AuthOutput → AuthPhase → SessionPhase → Type 0
TakesSealed lock sender place out session bytes it auth_phase session' =
    (frames : List Frame) × (error : Option SealError) × (rest : List ℕ) × Opens lock sender place bytes frames (ended rest error)
    × IsKept frames error (after (length frames) place) out rest session it auth_phase session'

-- the sender is the one that greeted
abbrev pub UnsealsFrom : Option (List ℕ) → Lock → Sequence → ℕ → SessionPhase → List ℕ → AuthOutput → AuthPhase → SessionPhase → Type 0
UnsealsFrom None lock place out session bytes it auth_phase session' = IsTurnedBack gate_faults.Unsealed session it auth_phase session'
UnsealsFrom (Some sender) lock place out session bytes it auth_phase session' = TakesSealed lock sender place out session bytes it auth_phase session'

abbrev pub Unseals : Lock → Sequence → ℕ → SessionPhase → List ℕ → AuthOutput → AuthPhase → SessionPhase → Type 0
Unseals lock place out session bytes it auth_phase session' = UnsealsFrom (name_of session) lock place out session bytes it auth_phase session'

-- the session hears the greeting, and the bytes behind it are sealed frames of its sender, from this place on, of whose challenge
-- nothing was sent yet; unless the session has no memory for the greeting
pub record IsGreeted (lock : Lock) (name : List ℕ) (place : Sequence) (session : SessionPhase) (encoding behind : List ℕ) (it : AuthOutput) (auth_phase : AuthPhase) (session' : SessionPhase) : Type 0 where
  pub said : Spoken
  pub mid : SessionPhase
  pub greets : Feeds session encoding said mid
  pub frames : said.fault ≡ None → TakesSealed lock name place 0 mid behind it auth_phase session'
  pub lacks : (fault : _) → said.fault ≡ Some fault → (it ≡ told said) × (auth_phase ≡ shut) × (session' ≡ mid)

-- the greeting isn't whole; or it is; or it is at fault
abbrev pub GreetsBy : Result (Option (List ℕ × ℕ)) FrameError → Lock → List ℕ → SessionPhase → List ℕ → AuthOutput → AuthPhase → SessionPhase → Type 0
GreetsBy (Ok None) lock challenge session bytes it auth_phase session' = Waits (greeting bytes) session it auth_phase session'
GreetsBy (Ok (Some hello)) lock challenge session bytes it auth_phase session' =
    IsGreeted lock hello.0 (first_in challenge) session (take hello.1 bytes) (drop hello.1 bytes) it auth_phase session'
GreetsBy (Err error) lock challenge session bytes it auth_phase session' = IsFailed error session it auth_phase session'

-- the output for the bytes behind the first byte of a sealed connection, if this challenge is sent back
abbrev pub Greets : Lock → List ℕ → SessionPhase → List ℕ → AuthOutput → AuthPhase → SessionPhase → Type 0
Greets lock challenge session bytes it auth_phase session' =
    GreetsBy (hello_of bytes) lock challenge session bytes it auth_phase session' ⊎ IsFailed frame_errors.Memory session it auth_phase session'

-- ---- any connection

-- the first byte of a request is 0x20 or greater
abbrev pub Asks : AcceptedProtocols → SessionPhase → List ℕ → AuthOutput → AuthPhase → SessionPhase → Type 0
Asks Frames session piece it auth_phase session' = IsTurnedBack gate_faults.Requests session it auth_phase session'
Asks _ session piece it auth_phase session' = PassesOn session piece it auth_phase session'

-- with a lock, a connection of frames begins with a byte 1
pub record Knocks (lock : Lock) (challenge : List ℕ) (first : ℕ) (behind : List ℕ) (session : SessionPhase) (it : AuthOutput) (auth_phase : AuthPhase) (session' : SessionPhase) : Type 0 where
  pub sealed_ : first ≡ 1 → Greets lock challenge session behind it auth_phase session'
  pub open_ : ¬ (first ≡ 1) → IsTurnedBack gate_faults.Unsealed session it auth_phase session'

-- without a lock, a connection of frames goes to the session
abbrev pub Sends : AcceptedProtocols → Option Lock → List ℕ → ℕ → List ℕ → SessionPhase → AuthOutput → AuthPhase → SessionPhase → Type 0
Sends Requests lock challenge first behind session it auth_phase session' = IsTurnedBack gate_faults.Frames session it auth_phase session'
Sends _ None challenge first behind session it auth_phase session' = PassesOn session (first ∷ behind) it auth_phase session'
Sends _ (Some lock) challenge first behind session it auth_phase session' = Knocks lock challenge first behind session it auth_phase session'

-- the effect of the first piece, by the first byte of the connection
pub record Begins (accepts : AcceptedProtocols) (lock : Option Lock) (challenge : List ℕ) (first : ℕ) (behind : List ℕ) (session : SessionPhase) (it : AuthOutput) (auth_phase : AuthPhase) (session' : SessionPhase) : Type 0 where
  pub request : 32 ≤ first → Asks accepts session (first ∷ behind) it auth_phase session'
  pub peer : first < 32 → Sends accepts lock challenge first behind session it auth_phase session'

-- The output for a piece of a connection of which this is heard, with the progress of the connection and its session then. If it is
-- greeted now, its frames have to answer this challenge.
abbrev pub Passes : AcceptedProtocols → Option Lock → List ℕ → AuthPhase → SessionPhase → List ℕ → AuthOutput → AuthPhase → SessionPhase → Type 0
Passes accepts lock challenge before session [] it auth_phase session' = Waits before session it auth_phase session'
Passes accepts lock challenge before session (first ∷ behind) it auth_phase session' = Begins accepts lock challenge first behind session it auth_phase session'
Passes accepts lock challenge passing session piece it auth_phase session' = PassesOn session piece it auth_phase session'
Passes accepts (Some lock) challenge (greeting bytes) session piece it auth_phase session' = Greets lock challenge session (bytes ++ piece) it auth_phase session'
Passes accepts (Some lock) challenge (sealed place out bytes) session piece it auth_phase session' = Unseals lock place out session (bytes ++ piece) it auth_phase session'
Passes accepts lock challenge way_ session piece it auth_phase session' = Waits shut session it auth_phase session'

-- the bytes of a challenge that haven't been sent
abbrev pub challenge_left : AuthPhase → List ℕ
challenge_left (sealed place out bytes) = drop out place.challenge
challenge_left _ = []

-- `count` more bytes of the challenge were sent
abbrev pub challenge_sent : ℕ → AuthPhase → AuthPhase
challenge_sent count (sealed place out bytes) = sealed place (out + count) bytes
challenge_sent count auth_phase = auth_phase

-- the bytes that wait for the rest of a greeting or of a frame
abbrev pub waiting_at : AuthPhase → List ℕ
waiting_at (greeting bytes) = bytes
waiting_at (sealed place out bytes) = bytes
waiting_at _ = []

-- the fault if the input ends while these bytes wait
abbrev pub cut_at : List ℕ → Option AuthFault
cut_at [] = None
cut_at (_ ∷ _) = Some gate_faults.Cut

-- the kinds of input that are heard, and the progress of the connection
pub record AtGate : Type 0 where
  pub accepts : AcceptedProtocols
  pub auth_phase : AuthPhase
