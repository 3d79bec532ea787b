-- One step of an instance: when it is refused, what it delivers, and what it sends.
use Rattle.std.specs.Prelude.{◌≡◌, ◌≢◌, ◌⊎◌, ◌≤◌, ◌<◌, ◌+◌, ℕ, Bool, true, false, ◌&&◌, List, [], ◌∷◌, ◌++◌, map}
use Rattle.std.specs.Prelude.{length, take, nat_lt, ⊤, is_some, Option, Some, None, option_map, Result, Ok, Err}
use Rattle.std.specs.Prelude.{if◌then◌else◌}
use Rattle.std.specs.List.{list_all}
use Rattle.am_wire.specs.Limits.{most}
use Rattle.std.specs.Ordering.{nat_cmp}
use Rattle.std.specs.Cmp.Lexicographic.{slice_cmp}
use Rattle.am_wire.specs.declared.error.WireError.{WireError}
use Rattle.am_wire.specs.declared.error.WireError.TheVariants as wire_errors
use Rattle.am_wire.specs.declared.unknown.Unknown.{Unknown}
use Rattle.am_nflog.specs.Mesh.{writes_mesh_entry}
use Rattle.am_nflog.specs.Made.{made_entry, expiry}
use Rattle.am_silence.specs.Mesh.{Mesh, mesh_version}
use Rattle.am_nflog.specs.Mesh.{Mesh as LogMesh, mesh_version as entry_version}
use Rattle.am_nflog.specs.Keys.{key_cmp}
use Rattle.am_gossip.specs.declared.frame.Part.{Part}
use Rattle.am_gossip.specs.declared.error.FrameError.{FrameError}
use Rattle.am_gossip.specs.declared.error.FrameError.TheVariants as frame_errors
use Rattle.am_gossip.specs.declared.frame.Frame.{Frame as GossipFrame}
use Rattle.am_gossip.specs.declared.frame.Frame.TheVariants as frames
use Rattle.am_gossip.specs.Answers.{frame_fault}
use Rattle.am_collect.specs.Events.{MapEvent, Events, after_all}
use Rattle.am_collect.specs.Events.MapEvent.{Collected}
use Rattle.am_instance.specs.declared.event.Event.{Event}
use Rattle.am_instance.specs.declared.event.Event.TheVariants as events
use Rattle.am_instance.specs.declared.event.Request.TheVariants as requests
use Rattle.am_gossip.specs.declared.refusals.StepError.{StepError}
use Rattle.am_gossip.specs.declared.refusals.StepError.TheVariants.{MomentBack, UnknownPeer, Frame, Memory}
use Rattle.am_instance.specs.declared.reply.Made.{Made}
use Rattle.am_instance.specs.declared.reply.Outcome.{Outcome}
use Rattle.am_instance.specs.Configs.{Settings, is_peer, peers_but}
use Rattle.am_instance.specs.InstanceStates.{InstanceState, silence_at, entry_at, silences_in_view, log_in_view}
use Rattle.am_instance.specs.Deliveries.{Delivery, events_at, to_silences, to_log, before_fault, first_fault, rows_in, parts_of}
use Rattle.am_instance.specs.Deliveries.Delivery.{OfSilence, OfEntry}
use Rattle.am_instance.specs.Changes.{changes, changed_of, silences_after, log_after}
use Rattle.am_instance.specs.Sendings.{Sent, Sends, deltas_to, nothing_sent, sent_by, whole_state}
use Rattle.am_instance.specs.Replies.{IsReply, IsNothing, AreSilencesMade, listed, not_found, posted_over, silence_in_view}
use Rattle.am_instance.specs.declared.reply.Reply.{Reply}
use Rattle.am_instance.specs.declared.reply.Reply.TheVariants as replies
use Rattle.am_merge.specs.declared.held.Taken.{Taken}
use Rattle.am_merge.specs.declared.held.Taken.TheVariants as takens
use Rattle.am_silence.specs.declared.plan.Posted.{Posted}
use Rattle.am_silence.specs.declared.plan.Plan.{Plan}
use Rattle.am_silence.specs.declared.plan.Verdict.{Verdict}
use Rattle.am_silence.specs.declared.plan.Verdict.TheVariants as verdicts
use Rattle.am_silence.specs.declared.matcher.Matcher.{Matcher}
use Rattle.am_silence.specs.declared.error.SilenceError.{SilenceError}
use Rattle.am_silence.specs.declared.error.SilenceError.TheVariants as silence_errors
use Rattle.am_silence.specs.Ids.{id_text}
use Rattle.am_silence.specs.Plans.{post_of, planned}
use Rattle.am_silence.specs.Refusals.{refusal, end_refusal, unread_refusal}
use Rattle.am_matcher.specs.declared.dialect.Dialect.{Dialect}
use Rattle.am_matcher.specs.Matching.{matches_value, has_regexp}
use Rattle.am_matcher.specs.Dialects.{IsVerdictIn, takes_names}

-- ---- when a step is refused

-- the place of a peer that the event names
abbrev pub peer_of : Event → Option ℕ
peer_of (events.Frame sender frame) = Some sender
peer_of (events.PullFrom place) = Some place
peer_of _ = None

-- the event names no peer, or it names a member other than this one
abbrev pub knows_peer : Settings → Option ℕ → Bool
knows_peer config None = true
knows_peer config (Some place) = is_peer config place

-- the fault of what an event brings: the first one in the rows of a frame, or an entry of a notification that is too large
abbrev pub fault_of : Settings → ℕ → Event → Option FrameError
fault_of config now (events.Frame sender frame) = option_map frame_fault (first_fault (rows_in config.unknown (parts_of frame)))
fault_of config now (events.Notified group_key receiver firing resolved repeat) =
    if nat_lt now (expiry repeat config.retention now)
    && nat_lt most (length (writes_mesh_entry (made_entry group_key receiver firing resolved repeat config.retention now)))
    then Some (frame_errors.Wire wire_errors.TooLarge) else None
fault_of config now _ = None

-- the versions that an event brings from a peer, read by the policy for unknown fields
abbrev pub brought : Unknown → Event → List Delivery
brought unknown (events.Frame sender frame) = before_fault (rows_in unknown (parts_of frame))
brought unknown _ = []

-- No cause of a refusal applies, memory aside.
pub record IsAccepted (old : InstanceState) (event : Event) (now : ℕ) : Type 0 where
  pub forward : old.last ≤ now
  pub known : knows_peer old.config (peer_of event) ≡ true
  pub sound : fault_of old.config now event ≡ None

-- the reason that a post is refused, given a verdict on its matchers
abbrev pub post_refusal : InstanceState → Posted → ℕ → ℕ → Verdict → Option SilenceError
post_refusal stand posted bits now verdict =
    refusal (posted_over now stand.silences posted.id) verdict (is_some (silence_at stand.silences (id_text bits)))
    (post_of posted now bits stand.config.retention)

-- the verdict on matchers without a regular expression
abbrev pub plain_verdict : Dialect → List Matcher → Verdict
plain_verdict dialect matchers =
    if takes_names dialect matchers
    then (if list_all (λ m. matches_value m []) matchers then verdicts.AllEmpty else verdicts.Fine)
    else verdicts.Bad

-- the reason that a request is refused, if no memory is needed to find out: the requested silence isn't in view, the one to be
-- ended can't be, or a post is refused. (Of a post with a regular expression, which has to be compiled, only what comes before
-- its patterns counts.)
abbrev pub refused_anyway : InstanceState → Event → ℕ → Option SilenceError
refused_anyway stand (events.Request (requests.Get id)) now = not_found (silence_in_view now stand.silences id)
refused_anyway stand (events.Request (requests.Delete id)) now =
    end_refusal (silence_in_view now stand.silences id) now stand.config.retention
refused_anyway stand (events.Request (requests.Post posted bits)) now =
    if has_regexp posted.matchers
    then unread_refusal (posted_over now stand.silences posted.id) posted
    else post_refusal stand posted bits now (plain_verdict stand.config.dialect posted.matchers)
refused_anyway stand _ now = None

-- Memory ran out before anything was taken; or after some of what was brought was taken, but not all of it, and there is no fault
-- in it.
abbrev pub RunsOut : Option FrameError → List Delivery → ℕ → Type 0
RunsOut fault ds taken = (taken ≡ 0) ⊎ ((fault ≡ None) × (taken < length ds))

-- A cause of a refusal applies, and none that comes before it. Memory may run out before the fault of a frame is found, but not
-- if a request is refused anyway.
abbrev pub IsRefusal : InstanceState → Event → ℕ → StepError → Type 0
IsRefusal old event now (MomentBack last) = (last ≡ old.last) × (now < old.last)
IsRefusal old event now UnknownPeer = (old.last ≤ now) × (knows_peer old.config (peer_of event) ≡ false)
IsRefusal old event now (Frame fault) = (old.last ≤ now) × (knows_peer old.config (peer_of event) ≡ true)
    × (fault_of old.config now event ≡ Some fault)
IsRefusal old event now (Memory taken) = (old.last ≤ now) × (knows_peer old.config (peer_of event) ≡ true)
    × RunsOut (fault_of old.config now event) (brought old.config.unknown event) taken × (refused_anyway old event now ≡ None)

-- ---- what a step delivers

-- the event collects
abbrev pub collects : Event → Bool
collects events.Tick = true
collects (events.Frame sender frames.Tick) = true
collects _ = false

-- the versions that a step made here, the silences first
abbrev pub made_here : Made → List Delivery
made_here made = map OfSilence made.silences.items ++ map OfEntry (listed made.log)

-- all that an event delivers: what it brought, and what it made here
abbrev pub delivers : Unknown → Event → Made → List Delivery
delivers unknown event made = brought unknown event ++ made_here made

-- The events that a step is to one of the maps: a collection; or its moment followed by each version that it delivered. A step
-- that memory stopped delivered only the first ones, and one that was refused otherwise is nothing.
abbrev pub step_events : {X : Type 0} → (Delivery → MapEvent X) → Unknown → Event → ℕ → Result Outcome StepError → Events X
step_events of_delivery unknown event now (Ok outcome) =
    if collects event then (Collected, now) ∷ [] else events_at of_delivery now (delivers unknown event outcome.made)
step_events of_delivery unknown event now (Err (Memory taken)) = events_at of_delivery now (take taken (brought unknown event))
step_events of_delivery unknown event now (Err _) = []

-- ---- what a step sends

-- the place that the versions of an event come from: a frame's sender, or otherwise the own place
abbrev pub origin : Settings → Event → ℕ
origin config (events.Frame sender frame) = sender
origin config _ = config.place

-- the frames that are sent last: a Pull in answer to a Push, and a Push to a peer to be pulled from, with both maps as they are
-- then
abbrev pub last_wanted : Event → InstanceState → List (ℕ × GossipFrame)
last_wanted (events.Frame sender (frames.Push parts)) new = (sender, frames.Pull (whole_state new.silences new.log)) ∷ []
last_wanted (events.PullFrom place) new = (place, frames.Push (whole_state new.silences new.log)) ∷ []
last_wanted _ new = []

-- All frames that a step wants to send: for each version whose taking was answered Changed, in the order taken, a Delta to every
-- peer but the one that it came from, in the order of their names.
abbrev pub wanted : InstanceState → Event → ℕ → Made → InstanceState → List (ℕ × GossipFrame)
wanted old event now made new =
    deltas_to (peers_but old.config (origin old.config event))
    (changed_of now (silence_at old.silences) (entry_at old.log) (delivers old.config.unknown event made))
    ++ last_wanted event new

-- both views are what is left of the held versions
pub record AreSwept (now : ℕ) (old new : InstanceState) : Type 0 where
  pub silences : new.silences ≡ silences_in_view now old.silences
  pub log : new.log ≡ log_in_view now old.log

-- a step was refused for a cause other than memory
abbrev pub IsRefused : Result Outcome StepError → Type 0
IsRefused (Ok outcome) = ⊥
IsRefused (Err (Memory taken)) = ⊥
IsRefused (Err _) = ⊤

-- the moment of an event counts if it was answered, or if memory ran out
abbrev pub counts : Result Outcome StepError → Bool
counts (Ok outcome) = true
counts (Err (Memory taken)) = true
counts (Err _) = false

-- ---- the work of a step, before its moment is set

-- the moment isn't before the last one, and a place that is named is that of a peer
pub record IsAdmitted (old : InstanceState) (event : Event) (now : ℕ) : Type 0 where
  pub forward : old.last ≤ now
  pub known : knows_peer old.config (peer_of event) ≡ true

-- the moment is before the last one, or otherwise a place that is named isn't that of a peer
abbrev pub IsUnadmitted : InstanceState → Event → ℕ → StepError → Type 0
IsUnadmitted old event now (MomentBack last) = (last ≡ old.last) × (now < old.last)
IsUnadmitted old event now UnknownPeer = (old.last ≤ now) × (knows_peer old.config (peer_of event) ≡ false)
IsUnadmitted old event now _ = ⊥

-- versions were delivered at a moment, one after the other
pub record Delivers (now : ℕ) (ds : List Delivery) (old new : InstanceState) : Type 0 where
  pub config : new.config ≡ old.config
  pub last : new.last ≡ old.last
  pub silences : silence_at new.silences ≡ silences_after now (silence_at old.silences) ds
  pub log : entry_at new.log ≡ log_after now (entry_at old.log) ds

-- only the first versions were delivered, not all of them; their number is added to the count
pub record StopsDelivering (now : ℕ) (ds : List Delivery) (old new : InstanceState) (before count : ℕ) : Type 0 where
  pub number : ℕ
  pub within : number < length ds
  pub counted : count ≡ before + number
  pub delivered : Delivers now (take number ds) old new

-- the answer to the first fault of rows; memory may run out before it is found
abbrev pub IsJudgement : Option WireError → StepError → Type 0
IsJudgement fault (Memory taken) = taken ≡ 0
IsJudgement fault (Frame e) = option_map frame_fault fault ≡ Some e
IsJudgement fault _ = ⊥

-- The result of the parts of a frame: all versions in them are taken, and those that change a map are sent to all peers but the
-- sender; or a row is at fault and nothing is taken; or memory ran out.
abbrev pub IsArrival : InstanceState → ℕ → List Part → ℕ → Result Sent StepError → InstanceState → Type 0
IsArrival old sender parts now (Ok sent) new =
    let ds = before_fault (rows_in old.config.unknown parts) in
    (first_fault (rows_in old.config.unknown parts) ≡ None) × Delivers now ds old new
    × Sends (deltas_to (peers_but old.config sender) (changed_of now (silence_at old.silences) (entry_at old.log) ds)) nothing_sent sent
IsArrival old sender parts now (Err (Frame e)) new = (option_map frame_fault (first_fault (rows_in old.config.unknown parts)) ≡ Some e) × (new ≡ old)
IsArrival old sender parts now (Err (Memory taken)) new =
    let ds = before_fault (rows_in old.config.unknown parts) in
    RunsOut (option_map frame_fault (first_fault (rows_in old.config.unknown parts))) ds taken × Delivers now (take taken ds) old new
IsArrival old sender parts now (Err _) new = ⊥

-- the answer, if no cause of a refusal applies
pub record IsOutcome (old : InstanceState) (event : Event) (now : ℕ) (outcome : Outcome) (new : InstanceState) : Type 0 where
  pub sound : fault_of old.config now event ≡ None
  pub swept : collects event ≡ true → AreSwept now old new
  pub sent : Sends (wanted old event now outcome.made new) nothing_sent (sent_by outcome)
  pub reply : IsReply old event now outcome.reply outcome.made

-- the answer to an event that is admitted, and the instance that it leaves
abbrev pub IsAnswered : InstanceState → Event → ℕ → Result Outcome StepError → InstanceState → Type 0
IsAnswered old event now (Ok outcome) new = IsOutcome old event now outcome new
IsAnswered old event now (Err (Frame fault)) new = (fault_of old.config now event ≡ Some fault) × (new ≡ old)
IsAnswered old event now (Err (Memory taken)) new =
    RunsOut (fault_of old.config now event) (brought old.config.unknown event) taken × (refused_anyway old event now ≡ None)
IsAnswered old event now (Err _) new = ⊥

-- the work of an event, apart from its moment
pub record IsWork (old : InstanceState) (event : Event) (now : ℕ) (result : Result Outcome StepError) (new : InstanceState) : Type 0 where
  pub config : new.config ≡ old.config
  pub last : new.last ≡ old.last
  pub silences : silence_at new.silences ≡ after_all mesh_version (slice_cmp nat_cmp) (silence_at old.silences)
      (step_events to_silences old.config.unknown event now result)
  pub log : entry_at new.log ≡ after_all entry_version key_cmp (entry_at old.log) (step_events to_log old.config.unknown event now result)
  pub answer : IsAnswered old event now result new

-- ---- versions that are made here

-- taking a version changed a map
abbrev pub is_changed : Taken → Bool
is_changed takens.Changed = true
is_changed takens.Kept = false
is_changed takens.Expired = false

-- the Deltas of what was made here, to all peers
abbrev pub deltas_here : InstanceState → ℕ → List Delivery → List (ℕ × GossipFrame)
deltas_here old now ds = deltas_to (peers_but old.config old.config.place) (changed_of now (silence_at old.silences) (entry_at old.log) ds)

-- silences that were made here are taken, and sent if that changes the map
pub record IsPutHere (old : InstanceState) (vs : List Mesh) (reply : Reply) (now : ℕ) (outcome : Outcome) (new : InstanceState) : Type 0 where
  pub answer : outcome.reply ≡ reply
  pub made : AreSilencesMade outcome.made vs
  pub delivered : Delivers now (map OfSilence vs) old new
  pub sent : Sends (deltas_here old now (map OfSilence vs)) nothing_sent (sent_by outcome)

-- an entry that was made here is taken, and sent if that changes the log
pub record IsLoggedHere (old : InstanceState) (entry : LogMesh) (now : ℕ) (outcome : Outcome) (new : InstanceState) : Type 0 where
  pub answer : outcome.reply ≡ replies.Logged (changes entry_version now (entry_at old.log) entry)
  pub no_silences : outcome.made.silences.items ≡ []
  pub made : outcome.made.log ≡ Some entry
  pub delivered : Delivers now (OfEntry entry ∷ []) old new
  pub sent : Sends (deltas_here old now (OfEntry entry ∷ [])) nothing_sent (sent_by outcome)

-- unless a post is refused whatever its patterns are, the verdict is that on its matchers
abbrev pub IsJudged : InstanceState → Posted → ℕ → Verdict → Type 0
IsJudged stand posted now verdict =
    unread_refusal (posted_over now stand.silences posted.id) posted ≡ None → IsVerdictIn stand.config.dialect posted.matchers verdict

-- the plan of a post, or why it is refused: by a verdict on its matchers, unless it is refused whatever its patterns are
abbrev pub IsPlanned : InstanceState → Posted → ℕ → ℕ → Result Plan SilenceError → Type 0
IsPlanned stand posted bits now (Ok plan) =
    (verdict : Verdict) × IsJudged stand posted now verdict × (post_refusal stand posted bits now verdict ≡ None)
    × (plan ≡ planned (posted_over now stand.silences posted.id) (post_of posted now bits stand.config.retention))
IsPlanned stand posted bits now (Err error) = error ≢ silence_errors.Memory →
    (verdict : Verdict) × IsJudged stand posted now verdict × (post_refusal stand posted bits now verdict ≡ Some error)

-- a request is refused for a cause other than memory, and nothing is made or sent
pub record IsTurnedAway (error : SilenceError) (outcome : Outcome) : Type 0 where
  pub other : error ≢ silence_errors.Memory
  pub answer : outcome.reply ≡ replies.Refused error
  pub nothing : IsNothing outcome.made
  pub unsent : sent_by outcome ≡ nothing_sent
