-- Runs of an instance: steps, one after the other.
use Rattle.std.specs.Prelude.{◌≡◌, ℕ, Bool, true, false, List, [], ◌∷◌, map, Result}
use Rattle.std.specs.List.{flat_map}
use Rattle.std.specs.Ordering.{nat_cmp}
use Rattle.std.specs.Cmp.Lexicographic.{slice_cmp}
use Rattle.am_silence.specs.Mesh.{Mesh, mesh_version}
use Rattle.am_nflog.specs.Mesh.{Mesh as LogMesh, mesh_version as entry_version}
use Rattle.am_nflog.specs.Keys.{key_cmp}
use Rattle.am_nflog.specs.LogKeys.{LogKey}
use Rattle.am_gossip.specs.Streams.{Stream}
use Rattle.am_merge.specs.Maps.{IsMap}
use Rattle.am_collect.specs.Events.{MapEvent, Events, taken}
use Rattle.am_collect.specs.Calm.{IsCalm}
use Rattle.am_instance.specs.declared.event.Event.{Event}
use Rattle.am_instance.specs.declared.event.Event.TheVariants as events
use Rattle.am_instance.specs.declared.event.Request.TheVariants as requests
use Rattle.am_gossip.specs.declared.refusals.StepError.{StepError}
use Rattle.am_instance.specs.declared.reply.Outcome.{Outcome}
use Rattle.am_instance.specs.Deliveries.{Delivery, to_silences, to_log}
use Rattle.am_instance.specs.InstanceStates.{InstanceState, kept_silences, kept_log, AreSilencesLeftBy, IsLogLeftBy}
use Rattle.am_instance.specs.Replies.{silence_in_view, entry_in_view}
use Rattle.am_instance.specs.Steps.{step_events}

-- a step that was made: the event, its moment, the answer, and the instance that it left
pub record Happened : Type 0 where
  pub event : Event
  pub now : ℕ
  pub answer : Result Outcome StepError
  pub left : InstanceState

-- steps made one after the other, each of which left the configuration as it was, and changed both maps as the contract of a step
-- says
abbrev pub AreMade : InstanceState → List Happened → InstanceState → Type 0
AreMade old [] new = new ≡ old
AreMade old (h ∷ hs) new =
    AreSilencesLeftBy (kept_silences old) (step_events to_silences h.left.config.unknown h.event h.now h.answer) (kept_silences h.left)
    × IsLogLeftBy (kept_log old) (step_events to_log h.left.config.unknown h.event h.now h.answer) (kept_log h.left)
    × AreMade h.left hs new

-- the events that steps are to one of the maps
abbrev pub run_events : {X : Type 0} → (Delivery → MapEvent X) → List Happened → Events X
run_events of_delivery hs = flat_map (λ h. step_events of_delivery h.left.config.unknown h.event h.now h.answer) hs

-- the bare sets: every silence that an instance began with or that was delivered
abbrev pub all_silences : InstanceState → List Happened → List Mesh
all_silences start steps = taken start.silences (run_events to_silences steps)

-- every entry that an instance began with or that was delivered
abbrev pub all_entries : InstanceState → List Happened → List LogMesh
all_entries start steps = taken start.log (run_events to_log steps)

-- both lists of an instance are maps: in the order of the keys, with no key twice
pub record HasMaps (stand : InstanceState) : Type 0 where
  pub silences : IsMap mesh_version (slice_cmp nat_cmp) stand.silences
  pub log : IsMap entry_version key_cmp stand.log

-- steps from one instance to another that were calm for both maps
pub record AreCalmSteps (start : InstanceState) (steps : List Happened) (new : InstanceState) : Type 0 where
  pub maps : HasMaps start
  pub made : AreMade start steps new
  pub silences : IsCalm mesh_version start.silences start.last (run_events to_silences steps)
  pub log : IsCalm entry_version start.log start.last (run_events to_log steps)

-- two instances have the same in view, at each identifier and at each key of the log
pub record ShowSame (now : ℕ) (one other : InstanceState) : Type 0 where
  pub silences : (id : List ℕ) → silence_in_view now one.silences id ≡ silence_in_view now other.silences id
  pub log : (key : LogKey) → entry_in_view now one.log key ≡ entry_in_view now other.log key

-- the event is answered from both views alone: a list, a silence, a decision, or the views
abbrev pub asks_views : Event → Bool
asks_views (events.Request (requests.List filters)) = true
asks_views (events.Request (requests.Get id)) = true
asks_views (events.Decide group_key receiver firing resolved repeat send_resolved) = true
asks_views events.Show = true
asks_views _ = false

-- the frames of a peer's stream, as events
abbrev pub events_of_stream : ℕ → Stream → List Event
events_of_stream sender stream = map (λ frame. events.Frame sender frame) stream.frames
