-- A member's life: the turns of its connections, in any interleaving, and its answers.
use Rattle.std.specs.Prelude.{◌≡◌, ◌⊎◌, ◌==◌, ◌≤◌, ℕ, true, false, List, [], ◌∷◌, ◌++◌, map, Option, None, Some, Result, Ok, Err, ⊤, if◌then◌else◌}
use Rattle.std.specs.List.{AllByRecursion, flat_map}
use Rattle.am_silence.specs.Mesh.{Mesh, mesh_version}
use Rattle.am_nflog.specs.Mesh.{Mesh as LogMesh, mesh_version as entry_version}
use Rattle.am_nflog.specs.LogKeys.{LogKey}
use Rattle.am_gossip.specs.declared.frame.Frame.{Frame}
use Rattle.am_http.specs.Lines.{line_seen}
use Rattle.am_http.specs.declared.refusal.Refusal.{Refusal}
use Rattle.am_http.specs.declared.request.Read.{Read}
use Rattle.am_http.specs.declared.request.Read.TheVariants.{Whole}
use Rattle.am_http.specs.declared.request.Request.{Request}
use Rattle.am_merge.specs.Views.{IsViewAt}
use Rattle.am_collect.specs.Calm.{IsCalm}
use Rattle.am_instance.specs.Bare.{IsBareReply, asks_shown}
use Rattle.am_matcher.specs.declared.dialect.Dialect.{Dialect}
use Rattle.am_instance.specs.Configs.{Settings}
use Rattle.am_instance.specs.Deliveries.{to_silences, to_log}
use Rattle.am_instance.specs.InstanceStates.{InstanceState}
use Rattle.am_instance.specs.Laws.{AreMade, Happened, all_entries, all_silences, run_events}
use Rattle.am_instance.specs.OneStep.{IsStep}
use Rattle.am_instance.specs.Replies.{silence_in_view, entry_in_view}
use Rattle.am_instance.specs.declared.event.Event.{Event}
use Rattle.am_instance.specs.declared.event.Event.TheVariants as events
use Rattle.am_instance.specs.declared.reply.Reply.{Reply}
use Rattle.am_api_silences.specs.Events.{IsEventIn}
use Rattle.am_api_silences.specs.ReplyBuilder.{Makes}
use Rattle.am_api_silences.specs.Replies.{IsReplyBytes, Says, line_bytes, memory_bytes}
use Rattle.am_api_silences.specs.Table.{clock_line}
use Rattle.am_api_silences.specs.declared.reply_builder.ReplyBuilder.{ReplyBuilder}
use Rattle.am_api_silences.specs.declared.replies.ResponseBytes.{ResponseBytes}
use Rattle.am_http.specs.Sessions.{Feeds, Says as SaysPiece, SaysEnd, Spoken, SessionPhase, and_then, name_of, nothing, over}
use Rattle.am_member.specs.declared.session_answer.SessionAnswer.{SessionAnswer}
use Rattle.am_member.specs.Exchanging.{AreFrom, IsSessionAnswer, IsFromNobody, is_stopped, left_at}
use Rattle.am_member.specs.Sparing.{deferred}

-- the input of a connection: a piece for which there was memory, any piece, or the end of its input; or frames that were sealed,
-- with the text of the greeting before them if that came with them
pub data Came : Type 0 where
  Heard : List ℕ → Came
  Fed : List ℕ → Came
  AtEnd : Came
  Opened : List ℕ → List Frame → Came

-- the bytes of what came
abbrev pub bytes_of : Came → List ℕ
bytes_of (Heard piece) = piece
bytes_of (Fed piece) = piece
bytes_of AtEnd = []
bytes_of (Opened greeting frames) = greeting

-- the session heard the greeting, if one came
abbrev pub IsGreetedBy : SessionPhase → List ℕ → SessionPhase → Type 0
IsGreetedBy old greeting new = ((greeting ≡ []) × (new ≡ old)) ⊎ ((said : Spoken) × Feeds old greeting said new × (said.fault ≡ None))

-- sealed frames say just these, behind the greeting; the connection is heard on or not
pub record SaysOpened (old : SessionPhase) (greeting : List ℕ) (frames : List Frame) (said : Spoken) (new : SessionPhase) : Type 0 where
  pub says : said ≡ record { frames = frames; request = None; fault = None }
  pub mid : SessionPhase
  pub greets : IsGreetedBy old greeting mid
  pub goes_on : (new ≡ mid) ⊎ (new ≡ over (name_of mid))

-- the input says this, and leaves the connection in this phase
abbrev pub Tells : SessionPhase → Came → Spoken → SessionPhase → Type 0
Tells old (Heard piece) said new = SaysPiece old piece said new
Tells old (Fed piece) said new = Feeds old piece said new
Tells old AtEnd said new = SaysEnd old said × (new ≡ over (name_of old))
Tells old (Opened greeting frames) said new = SaysOpened old greeting frames said new

-- A turn of a member: something came of a connection, at a moment and with random bits; what it said and how far the connection
-- had come with it, what the member answered, with a reply that may still be made, and the instance as it left it.
pub record Turn : Type 0 where
  pub connection : ℕ
  pub came : Came
  pub now : ℕ
  pub bits : ℕ
  pub said : Spoken
  pub heard : SessionPhase
  pub answer : SessionAnswer
  pub left : InstanceState

-- The input is told by the connection's own session; the events that its frames ask for are left to the member's own steps, and
-- the rest is answered as the contract of `apply_session_output` says.
pub record IsTurn (session_phase : SessionPhase) (old : InstanceState) (turn : Turn) : Type 0 where
  pub tells : Tells session_phase turn.came turn.said turn.heard
  pub answered : IsSessionAnswer (name_of turn.heard) turn.bits turn.now (deferred turn.said) old turn.left turn.answer

-- the phases of sessions after a turn: its connection's as the turn left it, and each other one as before
abbrev pub session_phases_after : (ℕ → SessionPhase) → Turn → ℕ → SessionPhase
session_phases_after session_phases turn = λ connection.
    if connection == turn.connection then left_at turn.answer.fault turn.heard else session_phases connection

-- a deed of a member: a turn of a connection; or a step that is no turn: one by itself, as a Tick, or one for a program that sends
-- pages
pub data Deed : Type 0 where
  Served : Turn → Deed
  Own : Happened → Deed

-- A member's life: its deeds one after the other. A turn goes on from where its own connection and the instance stand, and another
-- step from where the instance stands.
abbrev pub IsLife : (ℕ → SessionPhase) → InstanceState → List Deed → InstanceState → Type 0
IsLife session_phases old [] new = new ≡ old
IsLife session_phases old (Served turn ∷ deeds) new =
    IsTurn (session_phases turn.connection) old turn × IsLife (session_phases_after session_phases turn) turn.left deeds new
IsLife session_phases old (Own step ∷ deeds) new = IsStep old step.event step.now step.answer step.left × IsLife session_phases step.left deeds new

-- ---- each connection by itself

-- the turns of one connection in a life
abbrev pub turns_of : ℕ → List Deed → List Turn
turns_of connection [] = []
turns_of connection (Served turn ∷ deeds) =
    if connection == turn.connection then turn ∷ turns_of connection deeds else turns_of connection deeds
turns_of connection (Own step ∷ deeds) = turns_of connection deeds

-- the bytes that came in turns
abbrev pub bytes_in : List Turn → List ℕ
bytes_in turns = flat_map (λ turn. bytes_of turn.came) turns

-- all that was said in turns
abbrev pub said_in : List Turn → Spoken
said_in [] = nothing
said_in (turn ∷ turns) = and_then turn.said (said_in turns)

-- A member makes such a step by itself: a collection, or one of a frame in the answer of an Alertmanager that it asked.
abbrev pub IsOwnEvent : Event → Type 0
IsOwnEvent events.Tick = ⊤
IsOwnEvent (events.Frame sender frame) = ⊤
IsOwnEvent _ = ⊥

-- A member makes such a step for a program that sends pages: which silences mute an alert, whether a group is to be notified, and
-- that it was.
abbrev pub IsPagingEvent : Event → Type 0
IsPagingEvent (events.Mutes labels) = ⊤
IsPagingEvent (events.Decide group_key receiver firing resolved repeat send_resolved) = ⊤
IsPagingEvent (events.Notified group_key receiver firing resolved repeat) = ⊤
IsPagingEvent _ = ⊥

-- the phases of sessions after a life
abbrev pub session_phases_in : (ℕ → SessionPhase) → List Deed → ℕ → SessionPhase
session_phases_in session_phases [] = session_phases
session_phases_in session_phases (Served turn ∷ deeds) = session_phases_in (session_phases_after session_phases turn) deeds
session_phases_in session_phases (Own step ∷ deeds) = session_phases_in session_phases deeds

-- a piece came for which there was memory, and the member heard on: its peer is known, and no step was refused
pub record IsHeardOut (turn : Turn) : Type 0 where
  pub piece : List ℕ
  pub came : turn.came ≡ Heard piece
  pub goes_on : is_stopped turn.answer.fault ≡ false

-- ---- the steps of the instance

-- the events of what a request means: one, or none if it is refused before
abbrev pub listed : Result Event Refusal → List Event
listed (Ok event) = event ∷ []
listed (Err refusal) = []

-- the events of what was read
abbrev pub AreEventsOfRead : Dialect → Read → ℕ → List Event → Type 0
AreEventsOfRead dialect (Whole request) bits asked = (meant : Result Event Refusal) × IsEventIn dialect request bits meant × (asked ≡ listed meant)
AreEventsOfRead dialect _ bits asked = asked ≡ []

-- the events of frames: each comes from the one peer from which the connection is; there is none if there is no frame or no peer
abbrev pub AreEventsOfFrames : Settings → Option (List ℕ) → List Frame → List Event → Type 0
AreEventsOfFrames config name frames sent =
    ((sent ≡ []) × ((frames ≡ []) ⊎ IsFromNobody config name frames))
    ⊎ ((sender : ℕ) × AreFrom config name frames sender × (sent ≡ map (λ frame. events.Frame sender frame) frames))

-- the events of what was said
pub record AreEventsOf (config : Settings) (name : Option (List ℕ)) (bits : ℕ) (said : Spoken) (asked : List Event) : Type 0 where
  pub of_request : (read : Read) → said.request ≡ Some read → AreEventsOfRead config.dialect read bits asked
  pub of_frames : said.request ≡ None → AreEventsOfFrames config name said.frames asked

-- The steps of a turn, all at its moment: their events are those of what was said, without what frames ask for, in order, up to the
-- first that was refused.
pub record AreStepsOf (old : InstanceState) (turn : Turn) (steps : List Happened) : Type 0 where
  pub asked : List Event
  pub said : AreEventsOf old.config (name_of turn.heard) turn.bits (deferred turn.said) asked
  pub others : List Event
  pub parts : asked ≡ map (λ step. step.event) steps ++ others
  pub whole : (others ≡ []) ⊎ (is_stopped turn.answer.fault ≡ true)
  pub moments : AllByRecursion (λ step. step.now ≡ turn.now) steps
  pub made : AreMade old steps turn.left

-- the steps of a life, in the order of its deeds
abbrev pub AreStepsOfAll : InstanceState → List Deed → List Happened → Type 0
AreStepsOfAll old [] steps = steps ≡ []
AreStepsOfAll old (Served turn ∷ deeds) steps =
    (own : List Happened) × (others : List Happened) × AreStepsOf old turn own × AreStepsOfAll turn.left deeds others × (steps ≡ own ++ others)
AreStepsOfAll old (Own step ∷ deeds) steps =
    (others : List Happened) × AreStepsOfAll step.left deeds others × (steps ≡ step ∷ others)

-- ---- views and replies

-- the steps were calm for both maps
pub record AreCalm (start : InstanceState) (steps : List Happened) : Type 0 where
  pub silences : IsCalm mesh_version start.silences start.last (run_events to_silences steps)
  pub log : IsCalm entry_version start.log start.last (run_events to_log steps)

-- From the last step on, the instance shows the bare sets of all versions with which it began or that were delivered.
pub record ShowsBareSets (start : InstanceState) (steps : List Happened) (new : InstanceState) : Type 0 where
  pub silences : IsCalm mesh_version start.silences start.last (run_events to_silences steps) → (now : ℕ) (id : List ℕ) → new.last ≤ now →
      IsViewAt mesh_version (all_silences start steps) now id (silence_in_view now new.silences id)
  pub log : IsCalm entry_version start.log start.last (run_events to_log steps) → (now : ℕ) (key : LogKey) → new.last ≤ now →
      IsViewAt entry_version (all_entries start steps) now key (entry_in_view now new.log key)

-- The bytes tell what the bare sets give; or that the clock ran back, or that memory ran out.
abbrev pub IsBareBytes : Dialect → List Mesh → List LogMesh → Event → ℕ → List ℕ → Type 0
IsBareBytes dialect silences log event now bytes =
    ((reply : Reply) × IsBareReply dialect silences log event now reply × IsReplyBytes reply bytes)
    ⊎ ((bytes ≡ line_bytes clock_line) ⊎ (bytes ≡ memory_bytes))

-- The reply to a request for a list or a silence: the bytes that the bare sets give. A request that is refused before its step has
-- its line of the table.
abbrev pub RepliesBare : Dialect → List Mesh → List LogMesh → Result Event Refusal → ℕ → ResponseBytes → Type 0
RepliesBare dialect silences log (Ok event) now reply = asks_shown event ≡ true → Says (IsBareBytes dialect silences log event now) reply
RepliesBare dialect silences log (Err refusal) now reply = Says (λ bytes. bytes ≡ line_bytes (line_seen refusal)) reply

-- the reply to a request, whatever it means
pub record IsBareTold (dialect : Dialect) (silences : List Mesh) (log : List LogMesh) (request : Request) (bits now : ℕ) (reply : ResponseBytes) : Type 0 where
  pub meant : Result Event Refusal
  pub means : IsEventIn dialect request bits meant
  pub replied : RepliesBare dialect silences log meant now reply

-- such a reply is made
pub record IsBareAnswer (dialect : Dialect) (silences : List Mesh) (log : List LogMesh) (request : Request) (bits now : ℕ) (answer : SessionAnswer) : Type 0 where
  pub making : ReplyBuilder
  pub is : answer.reply ≡ Some making
  pub told : Makes (IsBareTold dialect silences log request bits now) making
