-- A connection in a member's life: the progress of its authenticator and its session, what it said that waits, and what is replied.
use Rattle.std.specs.Prelude.{◌≡◌, ◌⊎◌, ◌+◌, ◌-◌, ◌<◌, ◌++◌, ℕ, min, Bool, false, not, ◌||◌, MatchBool, List, [], length, take, drop, codes, string_bytes, Option, Some, None, Err, ⊤}
use Rattle.am_api_silences.specs.Events.{IsCall}
use Rattle.am_api_silences.specs.ReplyBuilder.{IsMadeOf, Makes}
use Rattle.am_api_silences.specs.Replies.{bytes_of, line_bytes}
use Rattle.am_api_silences.specs.Table.{memory_line, refused_line}
use Rattle.am_api_silences.specs.declared.reply_builder.ReplyBuilder.{ReplyBuilder}
use Rattle.am_api_silences.specs.declared.replies.ResponseBytes.{ResponseBytes}
use Rattle.am_api_status.specs.Calls.{path_at}
use Rattle.am_api_status.specs.declared.routes.StatusResource.{StatusResource}
use Rattle.am_peer_auth.specs.Authenticators.{AuthPhase, challenge_left, challenge_sent}
use Rattle.am_http.specs.Hosts.{line_of_foreign}
use Rattle.am_http.specs.Lines.{RefusalLine, line, line_of}
use Rattle.am_http.specs.Paths.{path_of}
use Rattle.am_http.specs.declared.cause.Cause.TheVariants.{BadFilter, Memory, NoSuchPath}
use Rattle.am_http.specs.declared.hosts.Foreign.{Foreign}
use Rattle.am_http.specs.declared.hosts.Screened.TheVariants.{Foreign as ForeignTo}
use Rattle.am_http.specs.declared.request.Read.{Read}
use Rattle.am_http.specs.declared.request.Read.TheVariants.{Whole}
use Rattle.am_http.specs.declared.request.Request.{Request}
use Rattle.am_http.specs.Sessions.{Screens, Spoken, SessionPhase, name_of, over, spoken}
use Rattle.am_instance.specs.InstanceStates.{InstanceState}
use Rattle.am_silence.specs.declared.error.SilenceError.TheVariants.{BadPattern}
use Rattle.am_server.specs.Calls.{IsAnswer, IsProgressOf, IsTurnedAway}
use Rattle.am_server.specs.declared.connection_state.CallProgress.{CallProgress}
use Rattle.am_server.specs.declared.connection_state.ConnectionState.{ConnectionState}
use Rattle.am_server.specs.declared.connection_state.ConnectionWork.{ConnectionWork}
use Rattle.am_server.specs.declared.connection_state.ConnectionWork.TheVariants as works

-- ---- what is replied

-- the reply to a connection: nothing yet; a reply that a step has begun, which is being made; a reply to a request that
-- isn't about silences, which has come this far; a whole reply, which waits for the next commit; or one of which this many bytes
-- went out
pub data Saying : Type 0 where
  Silent : Saying
  Making : ReplyBuilder → Saying
  Elsewhere : CallProgress → Saying
  Held : ResponseBytes → Saying
  Out : ResponseBytes → ℕ → Saying

-- the bytes that went out, and those that wait to
abbrev pub gone_of : Saying → List ℕ
gone_of (Out reply written) = take written (bytes_of reply)
gone_of _ = []

abbrev pub pending_of : Saying → List ℕ
pending_of (Out reply written) = drop written (bytes_of reply)
pending_of _ = []

-- the reply after `count` more bytes went out
abbrev pub sent_on : ℕ → Saying → Saying
sent_on count (Out reply written) = Out reply (written + count)
sent_on count saying = saying

-- A whole reply goes out, unless one does already.
abbrev pub said_next : ResponseBytes → Saying → Saying
said_next reply (Out other written) = Out other written
said_next reply _ = Out reply 0

-- the reason that a member answers a line, not a step's reply: the request names a host or an origin that isn't the member's; it
-- waited for the first pull, and waits no longer; there is no room for its post; its patterns take too much, in a filter, in a
-- post, or in a post beside those of the silences that are held; what it changed isn't kept on disk; or memory ran out
pub data OwnCause : Type 0 where
  IsForeign : Foreign → OwnCause
  NotReady : OwnCause
  StateTooLarge : OwnCause
  FilterTooLarge : OwnCause
  PatternTooLarge : OwnCause
  TooManyPatterns : OwnCause
  NotKept : OwnCause
  OutOfMemory : OwnCause

-- the line for each of them
abbrev pub own_line : OwnCause → RefusalLine
own_line (IsForeign what) = line_of_foreign what false
own_line NotReady = line 503 (codes "not ready")
own_line StateTooLarge = line 500 (codes "state too large")
own_line FilterTooLarge = line_of BadFilter
own_line PatternTooLarge = refused_line BadPattern
own_line TooManyPatterns = line 400 (codes "too many patterns")
own_line NotKept = line 500 (codes "held, but not kept on disk")
own_line OutOfMemory = line_of Memory

-- The line tells such a cause; of the reply to a HEAD only its head is sent.
abbrev pub IsOwnLine : RefusalLine → Type 0
IsOwnLine told = (cause : OwnCause) × (record told { bare = false } ≡ own_line cause)

-- The reply is such a line.
abbrev pub IsLine : ResponseBytes → Type 0
IsLine reply = (told : RefusalLine) × IsOwnLine told × (bytes_of reply ≡ line_bytes told)

-- The line says that what comes with this piece names a host or an origin that is none of these, or that memory ran out.
abbrev pub IsScreenedBy : SessionPhase → List ℕ → List (List ℕ) → RefusalLine → Type 0
IsScreenedBy session piece names told =
    ((what : Foreign) × (to_head : Bool) × Screens session piece names (ForeignTo what to_head) × (told ≡ line_of_foreign what to_head))
    ⊎ (told ≡ line_of Memory)

-- The reply is this line or, if memory ran out, the line that says so.
abbrev pub TellsLine : RefusalLine → ResponseBytes → Type 0
TellsLine told reply = (bytes_of reply ≡ line_bytes told) ⊎ (bytes_of reply ≡ line_bytes memory_line)

-- The reply to a call of a program that sends pages: its answer between these states, or a line of the member's own.
abbrev pub IsCallReply : Request → InstanceState → ResponseBytes → InstanceState → Type 0
IsCallReply request old reply new = IsAnswer request old reply new ⊎ (IsTurnedAway reply ⊎ IsLine reply)

-- the reply that a connection is owed: nothing but such a line; the reply that its step has begun, or a line; the answer to the
-- call of a program that sends pages, or a line; that answer between these states; or any reply to a request about the member
-- itself
pub data Owed : Type 0 where
  Line : Owed
  Reply : ReplyBuilder → Owed
  Answer : Request → Owed
  Given : Request → InstanceState → InstanceState → Owed
  Other : Owed

-- The connection may be given this reply, by what it is owed.
abbrev pub IsReplyTo : Owed → ResponseBytes → Type 0
IsReplyTo Line reply = IsLine reply
IsReplyTo (Reply begun) reply = IsMadeOf begun reply ⊎ IsLine reply
IsReplyTo (Answer request) reply = (old : InstanceState) × (new : InstanceState) × IsCallReply request old reply new
IsReplyTo (Given request old new) reply = IsCallReply request old reply new
IsReplyTo Other reply = ⊤

-- A reply that has come this far is one that the connection is owed.
abbrev pub IsComing : Owed → CallProgress → Type 0
IsComing Line call = ⊥
IsComing (Reply begun) call = ⊥
IsComing (Answer request) call = IsProgressOf request call
IsComing (Given request old new) call = ⊥
IsComing Other call = ⊤

-- If a reply is made, waits or goes out, it is one that the connection is owed.
abbrev pub IsOwed : Owed → Saying → Type 0
IsOwed owed Silent = ⊤
IsOwed owed (Making making) = Makes (IsReplyTo owed) making
IsOwed owed (Elsewhere call) = IsComing owed call
IsOwed owed (Held reply) = IsReplyTo owed reply
IsOwed owed (Out reply written) = IsReplyTo owed reply

-- If a reply is made, waits or goes out, it is the answer to the request between these states, or a line; and if none is yet, the
-- answer has come so far.
abbrev pub IsGiven : Request → InstanceState → InstanceState → Saying → Type 0
IsGiven request old new (Elsewhere call) = IsProgressOf request call
IsGiven request old new saying = IsOwed (Given request old new) saying

-- Nothing more went out.
abbrev pub KeepsGone : Saying → Saying → Type 0
KeepsGone old new = gone_of new ≡ gone_of old

-- The reply stays the one that was owed, or is such a line, and nothing more went out.
pub record Keeps (old new : Saying) : Type 0 where
  pub owed : (owed : Owed) → IsOwed owed old → IsOwed owed new
  pub gone : KeepsGone old new

-- The reply is finished from this, or stays the one that was owed, and nothing more went out.
pub record KeepsBy (making : ReplyBuilder) (old new : Saying) : Type 0 where
  pub owed : (owed : Owed) → IsOwed owed old → Makes (IsReplyTo owed) making → IsOwed owed new
  pub gone : KeepsGone old new

-- If this is such as is owed, the reply is or stays one that is owed.
abbrev pub KeepsIf : (Owed → Type 0) → Saying → Saying → Type 0
KeepsIf IsSuch old new = (owed : Owed) → IsOwed owed old → IsSuch owed → IsOwed owed new

-- the reply once a call is put off, unless one goes out already
abbrev pub put_next : CallProgress → Saying → Saying
put_next call (Out reply written) = Out reply written
put_next call _ = Elsewhere call

-- An answer that had come so far is given between these states, or comes further.
abbrev pub IsGivenOn : InstanceState → Saying → InstanceState → Saying → Type 0
IsGivenOn old (Elsewhere call) new saying' = (request : Request) → IsProgressOf request call → IsGiven request old new saying'
IsGivenOn old saying new saying' = ⊤

-- ---- a connection, as the member's life sees it

pub record Talk : Type 0 where
  pub auth_phase : AuthPhase
  pub session : SessionPhase
  pub waiting : Option Spoken
  pub saying : Saying

-- the whole input that waits, if one does
abbrev pub waiting_in : ConnectionWork → Option Spoken
waiting_in (works.Request said) = Some (spoken said)
waiting_in (works.Compiling said compilation) = Some (spoken said)
waiting_in _ = None

-- the reply, by the work that is left to do
abbrev pub saying_in : ConnectionWork → Saying
saying_in works.Nothing = Silent
saying_in (works.Request said) = Silent
saying_in (works.Compiling said compilation) = Silent
saying_in (works.Building making) = Making making
saying_in (works.Call call) = Elsewhere call
saying_in (works.Uncommitted held) = Held held.reply
saying_in (works.Reply outgoing) = Out outgoing.reply outgoing.written

-- Of a reply that waited for a commit, the reply itself goes out if all is kept or the request has changed nothing, and otherwise
-- the line that says that it isn't kept.
abbrev pub IsReleased : Bool → ConnectionWork → Saying → Type 0
IsReleased kept (works.Uncommitted held) saying =
    MatchBool (kept || not held.is_change) (saying ≡ Out held.reply 0) ((reply : ResponseBytes) × TellsLine (own_line NotKept) reply × (saying ≡ Out reply 0))
IsReleased kept work saying = saying ≡ saying_in work

-- No reply waits for a commit.
abbrev pub IsUnheld : ConnectionWork → Type 0
IsUnheld (works.Uncommitted held) = ⊥
IsUnheld work = ⊤

-- If there is a whole reply of which nothing went out, it waits for the next commit, as one of a request that has changed something
-- or not.
abbrev pub WaitsAs : Bool → ConnectionWork → Type 0
WaitsAs is_change (works.Reply outgoing) = 0 < outgoing.written
WaitsAs is_change (works.Uncommitted held) = held.is_change ≡ is_change
WaitsAs is_change work = ⊤

-- the connection that the code holds
abbrev pub talk_of : ConnectionState → Talk
talk_of connection = record { auth_phase = connection.authenticator.auth_phase; session = connection.session; waiting = waiting_in connection.work; saying = saying_in connection.work }

-- the bytes that wait to go out: the rest of the challenge, and then what is replied
abbrev pub pending_in : Talk → List ℕ
pending_in talk = challenge_left talk.auth_phase ++ pending_of talk.saying

-- the connection, after `count` more of those bytes went out
abbrev pub sent_in : ℕ → Talk → Talk
sent_in count talk = record talk {
  auth_phase = challenge_sent (min count (length (challenge_left talk.auth_phase))) talk.auth_phase;
  saying = sent_on (count - length (challenge_left talk.auth_phase)) talk.saying;
}

-- No more is heard, nothing waits, and what is replied stays or is a line.
pub record IsClosed (old new : Talk) : Type 0 where
  pub auth_phase : new.auth_phase ≡ old.auth_phase
  pub session : new.session ≡ over (name_of old.session)
  pub waiting : new.waiting ≡ None
  pub saying : Keeps old.saying new.saying

-- Nothing waits that didn't wait before.
abbrev pub WaitsNoMore : Talk → Talk → Type 0
WaitsNoMore old new = (new.waiting ≡ old.waiting) ⊎ (new.waiting ≡ None)

-- The session is as it was, and nothing more waits.
pub record Stays (old new : Talk) : Type 0 where
  pub auth_phase : new.auth_phase ≡ old.auth_phase
  pub session : new.session ≡ old.session
  pub waiting : WaitsNoMore old new

-- No more is heard, and nothing more waits.
pub record Closes (old new : Talk) : Type 0 where
  pub auth_phase : new.auth_phase ≡ old.auth_phase
  pub session : new.session ≡ over (name_of old.session)
  pub waiting : WaitsNoMore old new

-- The session is as it was, or no more is heard; and nothing more waits.
abbrev pub Rests : Talk → Talk → Type 0
Rests old new = Stays old new ⊎ Closes old new

-- The session is as it was, nothing more waits, and what is replied stays what it was owed to be; if nothing was replied, nothing
-- is.
pub record Idles (old new : Talk) : Type 0 where
  pub stays : Stays old new
  pub silent : old.saying ≡ Silent → new.saying ≡ Silent
  pub saying : Keeps old.saying new.saying

-- The connection idles, or no more is heard.
abbrev pub Lasts : Talk → Talk → Type 0
Lasts old new = Idles old new ⊎ IsClosed old new

-- ---- what was asked

-- A request was said, or a fault of one.
abbrev pub IsRequest : Spoken → Type 0
IsRequest said = (read : Read) × (said.request ≡ Some read)

-- A whole request was read, whose path isn't one of the API of silences.
abbrev pub AsksElsewhere : Read → Type 0
AsksElsewhere (Whole request) = IsCall request (Err NoSuchPath)
AsksElsewhere _ = ⊥

-- Such a request was said.
abbrev pub IsElsewhere : Spoken → Type 0
IsElsewhere said = (read : Read) × (said.request ≡ Some read) × AsksElsewhere read

-- A whole request was read, whose path names a page about the member.
abbrev pub AsksOfMember : Read → Type 0
AsksOfMember (Whole request) = (resource : StatusResource) × (path_of (string_bytes request.target) ≡ path_at resource)
AsksOfMember _ = ⊥

-- Such a request is owed this: any reply if its path names a page about the member, and otherwise its answer.
abbrev pub Owes : Spoken → Owed → Type 0
Owes said (Answer request) = said.request ≡ Some (Whole request)
Owes said Other = (read : Read) × (said.request ≡ Some read) × AsksOfMember read
Owes said _ = ⊥
