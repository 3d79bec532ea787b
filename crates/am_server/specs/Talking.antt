-- The accord of a running member's connection with the member's life, and the results of calls.
use Rattle.std.specs.Prelude.{◌≡◌, ◌≢◌, ◌⊎◌, ◌≤◌, ℕ, List, [], ◌∷◌, ◌++◌, length, take, Option, Some, None, ⊤}
use Rattle.am_api_silences.specs.Replies.{bytes_of as reply_bytes}
use Rattle.am_api_silences.specs.declared.reply_builder.ReplyBuilder.{ReplyBuilder}
use Rattle.am_api_silences.specs.declared.replies.ResponseBytes.{ResponseBytes}
use Rattle.am_server.specs.Answered.{ForPages, IsAnswered}
use Rattle.am_server.specs.Talks.{IsClosed, IsElsewhere, IsGivenOn, IsOwed, IsReplyTo, IsRequest, Lasts, Owed, Owes, Talk, gone_of, pending_in, sent_in}
use Rattle.am_server.specs.Talks.Owed.{Line, Reply}
use Rattle.am_server.specs.Talks.Saying.{Silent}
use Rattle.am_peer_auth.specs.declared.passing.AcceptedProtocols.{AcceptedProtocols}
use Rattle.am_peer_auth.specs.Authenticators.{Passes, AuthOutput, AuthPhase, challenge_left}
use Rattle.am_peer_auth.specs.Authenticators.AuthPhase.{before, passing, greeting, sealed, shut}
use Rattle.am_http.specs.Sessions.{SaysEnd, Spoken, SessionPhase, fresh, name_of, over}
use Rattle.am_instance.specs.InstanceStates.{InstanceState}
use Rattle.am_member.specs.Lives.{Came, Tells, Turn, bytes_in, bytes_of}
use Rattle.am_reactor.specs.Deeds.{Deed}
use Rattle.am_reactor.specs.Deeds.Deed.{Fed, Ended, Sent, Resumed, Released, ReachedDeadline, AbandonedWait, BrokenOff}
use Rattle.am_reactor.specs.Sending.{IsFirstPart}
use Rattle.am_peer_auth.specs.declared.seal.Lock.{Lock}
use Rattle.am_server.specs.MemberService.{Passed}

-- a connection before anything came
abbrev pub fresh_talk : Talk
fresh_talk = record { auth_phase = before; session = fresh; waiting = None; saying = Silent }

-- ---- accord

-- The bytes that were fed are those of the turns, and then these. This says nothing of a connection whose frames are sealed.
abbrev pub AreFed : AuthPhase → List ℕ → List Turn → List ℕ → Type 0
AreFed before fed turns more = fed ≡ bytes_in turns ++ more
AreFed passing fed turns more = fed ≡ bytes_in turns ++ more
AreFed way_ fed turns more = ⊤

-- the reply that a connection is owed by its turns: the one that the last of them has begun, if one has, and otherwise at most
-- a line
abbrev pub owed_after : Owed → Option ReplyBuilder → Owed
owed_after owed None = owed
owed_after owed (Some begun) = Reply begun

abbrev pub owed_on : Owed → List Turn → Owed
owed_on owed [] = owed
owed_on owed (turn ∷ turns) = owed_on (owed_after owed turn.answer.reply) turns

abbrev pub owed_by : List Turn → Owed
owed_by turns = owed_on Line turns

-- The bytes that were fed last, after the turns, say a request that isn't about silences, from where the connection stands in the
-- life; and what that request is owed is such.
pub record HasAskedElsewhere (fed : List ℕ) (session_phase : SessionPhase) (turns : List Turn) (IsSuch : Owed → Type 0) : Type 0 where
  pub came : Came
  pub said : Spoken
  pub left : SessionPhase
  pub tells : Tells session_phase came said left
  pub elsewhere : IsElsewhere said
  pub bytes : fed ≡ bytes_in turns ++ bytes_of came
  pub owed : Owed
  pub owes : Owes said owed
  pub such : IsSuch owed

-- The session stands where its connection does in the life, all that came was heard in turns, and nothing waits. What is replied
-- is what its turns owe, and nothing is replied as long as more is heard.
pub record IsHeard (talk : Talk) (fed : List ℕ) (session_phase : SessionPhase) (turns : List Turn) : Type 0 where
  pub waiting : talk.waiting ≡ None
  pub session : talk.session ≡ session_phase
  pub bytes : AreFed talk.auth_phase fed turns []
  pub silent : talk.session ≢ over (name_of talk.session) → talk.saying ≡ Silent
  pub owed : IsOwed (owed_by turns) talk.saying

-- A request waits: the bytes that came last say it, from where the connection stands in the life. No more is heard, and nothing
-- is replied yet.
pub record HasAsked (talk : Talk) (fed : List ℕ) (session_phase : SessionPhase) (turns : List Turn) : Type 0 where
  pub said : Spoken
  pub came : Came
  pub waiting : talk.waiting ≡ Some said
  pub request : IsRequest said
  pub tells : Tells session_phase came said talk.session
  pub ended : talk.session ≡ over (name_of talk.session)
  pub bytes : AreFed talk.auth_phase fed turns (bytes_of came)
  pub plain : IsElsewhere said → fed ≡ bytes_in turns ++ bytes_of came
  pub silent : talk.saying ≡ Silent

-- No more is heard, and no more turns come; the turns had a first part of what was fed. What is replied is what the turns owe, or
-- what a request that isn't about silences is owed.
pub record IsDone (talk : Talk) (fed : List ℕ) (session_phase : SessionPhase) (turns : List Turn) : Type 0 where
  pub rest : List ℕ
  pub waiting : talk.waiting ≡ None
  pub ended : talk.session ≡ over (name_of talk.session)
  pub bytes : AreFed talk.auth_phase fed turns rest
  pub owed : IsOwed (owed_by turns) talk.saying ⊎ HasAskedElsewhere fed session_phase turns (λ owed. IsOwed owed talk.saying)

-- The first byte of a sealed connection came first.
abbrev pub BeginsSealed : List ℕ → Type 0
BeginsSealed fed = (behind : List ℕ) × (fed ≡ 1 ∷ behind)

-- The bytes that went out before any reply are the beginning of a challenge, which only a sealed connection has, once it has
-- greeted; if no more is heard, it isn't known how much of it. Nothing was fed before anything came, unless no more is heard.
abbrev pub IsFront : AuthPhase → SessionPhase → List ℕ → List ℕ → Type 0
IsFront before session fed front = (front ≡ []) × (session ≢ over (name_of session) → fed ≡ [])
IsFront passing session fed front = front ≡ []
IsFront (greeting bytes) session fed front = (front ≡ []) × BeginsSealed fed
IsFront (sealed place out bytes) session fed front = (front ≡ take out place.challenge) × (length place.challenge ≡ 32) × BeginsSealed fed
IsFront shut session fed front = (front ≡ []) ⊎ ((length front ≤ 32) × BeginsSealed fed)

-- A connection accords with the bytes that passed over it, with where it stands in the life, and with its turns there. What went
-- out is the beginning of its challenge, if it has one, and of its reply, of which nothing goes out before all of the challenge.
pub record IsInAccord (talk : Talk) (passed : Passed) (session_phase : SessionPhase) (turns : List Turn) : Type 0 where
  pub front : List ℕ
  pub gone : passed.gone ≡ front ++ gone_of talk.saying
  pub asked : IsFront talk.auth_phase talk.session passed.fed front
  pub order : (challenge_left talk.auth_phase ≡ []) ⊎ (gone_of talk.saying ≡ [])
  pub stands : IsHeard talk passed.fed session_phase turns ⊎ (HasAsked talk passed.fed session_phase turns ⊎ IsDone talk passed.fed session_phase turns)

-- The reply is one that the turns owe, or one that a request which isn't about silences is owed.
abbrev pub IsMeantFor : List ℕ → SessionPhase → List Turn → ResponseBytes → Type 0
IsMeantFor fed session_phase turns reply = IsReplyTo (owed_by turns) reply ⊎ HasAskedElsewhere fed session_phase turns (λ owed. IsReplyTo owed reply)

-- At most the 32 bytes of a challenge went out, and only over a connection that began as sealed ones do.
abbrev pub IsAskedBack : List ℕ → List ℕ → Type 0
IsAskedBack fed front = (front ≡ []) ⊎ ((length front ≤ 32) × BeginsSealed fed)

-- All that went out over a connection, except for the challenge of a sealed one before it, is a first part of one reply: the one
-- that the step of its own request has begun, or a line; or, if its request isn't about silences, one that this is owed.
pub record IsReplied (passed : Passed) (session_phase : SessionPhase) (turns : List Turn) : Type 0 where
  pub front : List ℕ
  pub rest : List ℕ
  pub gone : passed.gone ≡ front ++ rest
  pub asked : IsAskedBack passed.fed front
  pub replied : (rest ≡ []) ⊎ ((reply : ResponseBytes) × IsFirstPart rest (reply_bytes reply) × IsMeantFor passed.fed session_phase turns reply)

-- ---- calls

-- The piece passes the authenticator, which has this lock or none, and this challenge of 32 bytes; what is said then is answered.
pub record IsLetIn (lock : Option Lock) (piece : List ℕ) (old : InstanceState) (talk : Talk) (new : InstanceState) (talk' : Talk) : Type 0 where
  pub accepts : AcceptedProtocols
  pub challenge : List ℕ
  pub long : length challenge ≡ 32
  pub told : AuthOutput
  pub auth_phase : AuthPhase
  pub session : SessionPhase
  pub passes : Passes accepts lock challenge talk.auth_phase talk.session piece told auth_phase session
  pub answered : IsAnswered told.said old (record talk { auth_phase = auth_phase; session = session }) new talk'

-- The piece names a host or a site that isn't the member's, and no more is heard.
abbrev pub IsScreened : InstanceState → Talk → InstanceState → Talk → Type 0
IsScreened old talk new talk' = (new ≡ old) × IsClosed talk talk'

-- A piece comes over a connection that is still heard.
pub record IsFed (lock : Option Lock) (piece : List ℕ) (old : InstanceState) (talk : Talk) (new : InstanceState) (talk' : Talk) : Type 0 where
  pub open_ : talk.session ≢ over (name_of talk.session)
  pub has_byte : piece ≢ []
  pub comes : IsScreened old talk new talk' ⊎ IsLetIn lock piece old talk new talk'

-- The connection's input ends.
pub record IsEnded (old : InstanceState) (talk : Talk) (new : InstanceState) (talk' : Talk) : Type 0 where
  pub open_ : talk.session ≢ over (name_of talk.session)
  pub said : Spoken
  pub says : SaysEnd talk.session said
  pub answered : IsAnswered said old (record talk { session = over (name_of talk.session) }) new talk'

-- Nothing comes of the call but steps for a program that sends pages.
pub record IsForPages (old : InstanceState) (talk : Talk) (new : InstanceState) (talk' : Talk) : Type 0 where
  pub steps : ForPages old new
  pub lasts : Lasts talk talk'

-- So it is, and the answer that had come so far is given between these states, if it is given.
pub record IsCalledOn (old : InstanceState) (talk : Talk) (new : InstanceState) (talk' : Talk) : Type 0 where
  pub pages : IsForPages old talk new talk'
  pub given : IsGivenOn old talk.saying new talk'.saying

-- Nothing comes of the call for the instance.
pub record IsStill (old : InstanceState) (talk : Talk) (new : InstanceState) (talk' : Talk) : Type 0 where
  pub same : new ≡ old
  pub lasts : Lasts talk talk'

-- These bytes went out, the first of those that waited.
pub record IsSent (bytes : List ℕ) (old : InstanceState) (talk : Talk) (new : InstanceState) (talk' : Talk) : Type 0 where
  pub same : new ≡ old
  pub first : IsFirstPart bytes (pending_in talk)
  pub sent : talk' ≡ sent_in (length bytes) talk

-- The input that waits is taken up, if there is one.
abbrev pub IsTakenUp : Option Spoken → InstanceState → Talk → InstanceState → Talk → Type 0
IsTakenUp None old talk new talk' = IsCalledOn old talk new talk'
IsTakenUp (Some said) old talk new talk' = IsRequest said → IsAnswered said old (record talk { waiting = None }) new talk'

-- A call for a connection changes the instance and the connection in this way, behind this lock or none.
abbrev pub Does : Option Lock → Deed → InstanceState → Talk → InstanceState → Talk → Type 0
Does lock (Fed piece) old talk new talk' = IsFed lock piece old talk new talk'
Does lock Ended old talk new talk' = IsEnded old talk new talk'
Does lock Resumed old talk new talk' = IsTakenUp talk.waiting old talk new talk'
Does lock (Sent bytes) old talk new talk' = IsSent bytes old talk new talk'
Does lock Released old talk new talk' = IsStill old talk new talk'
Does lock ReachedDeadline old talk new talk' = IsCalledOn old talk new talk'
Does lock AbandonedWait old talk new talk' = IsStill old talk new talk'
Does lock (BrokenOff broken) old talk new talk' = IsStill old talk new talk'
