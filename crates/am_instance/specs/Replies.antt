-- The answer of a step, and the versions that it makes here.
use Rattle.std.specs.Prelude.{◌≡◌, ℕ, Bool, true, false, List, [], ◌∷◌, map, filter, Option, Some, None, is_some, option_map, nat_lt}
use Rattle.std.specs.List.{list_all}
use Rattle.am_silence.specs.Mesh.{Mesh}
use Rattle.am_silence.specs.States.{state_of}
use Rattle.am_silence.specs.Ids.{id_text}
use Rattle.am_silence.specs.declared.state.State.{State}
use Rattle.am_silence.specs.declared.plan.Posted.{Posted}
use Rattle.am_silence.specs.declared.plan.Plan.{Plan}
use Rattle.am_silence.specs.declared.plan.Plan.TheVariants.{Update, Create, Replace}
use Rattle.am_silence.specs.declared.plan.Verdict.{Verdict}
use Rattle.am_silence.specs.declared.error.SilenceError.{SilenceError}
use Rattle.am_silence.specs.declared.error.SilenceError.TheVariants.{NotFound}
use Rattle.am_silence.specs.declared.matcher.Matcher.{Matcher}
use Rattle.am_silence.specs.Plans.{post_of, planned, versions, ended_of}
use Rattle.am_silence.specs.Refusals.{refusal, end_refusal, unread_refusal}
use Rattle.am_matcher.specs.declared.dialect.Dialect.{Dialect}
use Rattle.am_matcher.specs.Matching.{passes}
use Rattle.am_matcher.specs.Dialects.{IsVerdictIn}
use Rattle.am_matcher.specs.Mutes.{AreMutedIn}
use Rattle.am_nflog.specs.Mesh.{Mesh as LogMesh, mesh_version as entry_version}
use Rattle.am_nflog.specs.Made.{made_entry, expiry}
use Rattle.am_nflog.specs.LogKeys.{LogKey}
use Rattle.am_dedup.specs.Decisions.{decision, logged, set_of}
use Rattle.am_merge.specs.Maps.{if_live}
use Rattle.am_instance.specs.declared.event.Event.{Event}
use Rattle.am_instance.specs.declared.event.Event.TheVariants as events
use Rattle.am_instance.specs.declared.event.Request.{Request}
use Rattle.am_instance.specs.declared.event.Request.TheVariants as requests
use Rattle.am_instance.specs.declared.reply.Reply.{Reply}
use Rattle.am_instance.specs.declared.reply.Reply.TheVariants as replies
use Rattle.am_instance.specs.declared.reply.Made.{Made}
use Rattle.am_instance.specs.InstanceStates.{InstanceState, silence_at, entry_at, silences_in_view, log_in_view}
use Rattle.am_instance.specs.Changes.{changes}
use Rattle.am_silence.specs.Mesh.{mesh_version}

-- the value alone, if there is one
abbrev pub listed : {A : Type 0} → Option A → List A
listed None = []
listed (Some x) = x ∷ []

-- ---- what is shown

-- a silence with its state
abbrev pub with_state : ℕ → Mesh → Mesh × State
with_state now v = (v, state_of v.silence now)

-- the silences in view that pass all filters, by id, with their states
abbrev pub silences_shown : ℕ → List Matcher → List Mesh → List (Mesh × State)
silences_shown now filters silences =
    map (with_state now) (filter (λ v. list_all (λ f. passes f v.silence) filters) (silences_in_view now silences))

-- the silence with an id, if it is in view
abbrev pub silence_in_view : ℕ → List Mesh → List ℕ → Option Mesh
silence_in_view now silences id = if_live mesh_version now (silence_at silences id)

-- the entry at a key, if it is in view
abbrev pub entry_in_view : ℕ → List LogMesh → LogKey → Option LogMesh
entry_in_view now log key = if_live entry_version now (entry_at log key)

-- the reason that a request for a silence is refused
abbrev pub not_found : Option Mesh → Option SilenceError
not_found None = Some NotFound
not_found (Some v) = None

-- the silence, or the refusal if there is none
abbrev pub found_reply : ℕ → Option Mesh → Reply → Type 0
found_reply now None reply = reply ≡ replies.Refused NotFound
found_reply now (Some v) reply = reply ≡ replies.Silence v (state_of v.silence now)

-- ---- what is made

-- nothing was made here
pub record IsNothing (made : Made) : Type 0 where
  pub silences : made.silences.items ≡ []
  pub log : made.log ≡ None

-- silences were made here, and no entry
pub record AreSilencesMade (made : Made) (versions : List Mesh) : Type 0 where
  pub silences : made.silences.items ≡ versions
  pub log : made.log ≡ None

-- the id of a plan's new version: that of the updated silence, or of the new one
abbrev pub posted_id : Plan → List ℕ
posted_id (Update v) = v.silence.id
posted_id (Create v) = v.silence.id
posted_id (Replace new old) = new.silence.id

-- the version in view with the posted id, if one is posted
abbrev pub posted_over : ℕ → List Mesh → Option (List ℕ) → Option Mesh
posted_over now silences None = None
posted_over now silences (Some id) = silence_in_view now silences id

-- a request is refused, and makes nothing
pub record IsRefused (error : SilenceError) (reply : Reply) (made : Made) : Type 0 where
  pub answer : reply ≡ replies.Refused error
  pub nothing : IsNothing made

-- a post does what is planned
pub record IsDone (plan : Plan) (reply : Reply) (made : Made) : Type 0 where
  pub answer : reply ≡ replies.Posted (posted_id plan)
  pub copies : AreSilencesMade made (versions plan)

-- a silence is ended by one version
pub record IsEnded (version : Option Mesh) (reply : Reply) (made : Made) : Type 0 where
  pub answer : reply ≡ replies.Deleted
  pub copies : AreSilencesMade made (listed version)

-- the request is refused for that reason, if there is one, and done otherwise
abbrev pub RefusedOr : Option SilenceError → (Reply → Made → Type 0) → Reply → Made → Type 0
RefusedOr None Done reply made = Done reply made
RefusedOr (Some error) Done reply made = IsRefused error reply made

-- A post is answered by its plan for the silence in view with the posted id; the fresh id counts as held whether live or not. (If
-- the post is refused whatever its patterns are, no verdict on them counts.)
pub record IsPosted (dialect : Dialect) (now retention : ℕ) (silences : List Mesh) (posted : Posted) (bits : ℕ) (reply : Reply) (made : Made) : Type 0 where
  pub verdict : Verdict
  pub judged : unread_refusal (posted_over now silences posted.id) posted ≡ None → IsVerdictIn dialect posted.matchers verdict
  pub answer :
      let held = posted_over now silences posted.id in
      let post = post_of posted now bits retention in
      RefusedOr (refusal held verdict (is_some (silence_at silences (id_text bits))) post) (IsDone (planned held post)) reply made

-- an end is answered by the version that ends the silence in view
abbrev pub IsDeleted : ℕ → ℕ → List Mesh → List ℕ → Reply → Made → Type 0
IsDeleted now retention silences id reply made =
    let held = silence_in_view now silences id in
    RefusedOr (end_refusal held now retention) (IsEnded (ended_of held now retention)) reply made

-- a notification's entry is made if it expires after now, and the answer is whether it changed the log
abbrev pub IsLogged : ℕ → List LogMesh → Bool → LogMesh → Reply → Made → Type 0
IsLogged now log false entry reply made = (reply ≡ replies.Logged false) × IsNothing made
IsLogged now log true entry reply made = (reply ≡ replies.Logged (changes entry_version now (entry_at log) entry))
    × (made.silences.items ≡ []) × (made.log ≡ Some entry)

-- ---- the reply to each event, and what it made here

-- the reply is this list of silences with their states
abbrev pub HoldsSilences : List (Mesh × State) → Reply → Type 0
HoldsSilences rows (replies.Silences shown) = shown.items ≡ rows
HoldsSilences rows _ = ⊥

-- the reply is these two views
abbrev pub HoldsViews : List (Mesh × State) → List LogMesh → Reply → Type 0
HoldsViews silences log (replies.Shown shown entries) = (shown.items ≡ silences) × (entries.items ≡ log)
HoldsViews silences log _ = ⊥

-- the reply is the silences that mute the labels, and those that are broken
abbrev pub HoldsMutes : (List (List ℕ) → List (List ℕ) → Type 0) → Reply → Type 0
HoldsMutes Muted (replies.Muted mutes) = Muted mutes.ids mutes.broken
HoldsMutes Muted _ = ⊥

-- the reply to a request, and the versions made for it
abbrev pub IsRequestReply : InstanceState → Request → ℕ → Reply → Made → Type 0
IsRequestReply stand (requests.List filters) now reply made =
    HoldsSilences (silences_shown now filters.items stand.silences) reply × IsNothing made
IsRequestReply stand (requests.Get id) now reply made = found_reply now (silence_in_view now stand.silences id) reply × IsNothing made
IsRequestReply stand (requests.Post posted bits) now reply made =
    IsPosted stand.config.dialect now stand.config.retention stand.silences posted bits reply made
IsRequestReply stand (requests.Delete id) now reply made = IsDeleted now stand.config.retention stand.silences id reply made

-- the reply to an event, and the versions made for it
abbrev pub IsReply : InstanceState → Event → ℕ → Reply → Made → Type 0
IsReply stand (events.Request request) now reply made = IsRequestReply stand request now reply made
IsReply stand (events.Frame sender frame) now reply made = (reply ≡ replies.Nothing) × IsNothing made
IsReply stand (events.Notified group_key receiver firing resolved repeat) now reply made =
    IsLogged now stand.log (nat_lt now (expiry repeat stand.config.retention now))
    (made_entry group_key receiver firing resolved repeat stand.config.retention now) reply made
IsReply stand (events.Decide group_key receiver firing resolved repeat send_resolved) now reply made =
    (reply ≡ replies.Decided (decision (option_map (λ m. logged m.entry)
    (entry_in_view now stand.log (record { group_key = group_key; receiver = receiver }))) (set_of firing)
    (set_of resolved) repeat send_resolved now))
    × IsNothing made
IsReply stand (events.Mutes labels) now reply made =
    HoldsMutes (AreMutedIn stand.config.dialect labels now stand.silences) reply × IsNothing made
IsReply stand events.Show now reply made =
    HoldsViews (silences_shown now [] stand.silences) (log_in_view now stand.log) reply × IsNothing made
IsReply stand events.Tick now reply made = (reply ≡ replies.Nothing) × IsNothing made
IsReply stand (events.PullFrom place) now reply made = (reply ≡ replies.Nothing) × IsNothing made
