-- The steps of an instance as steps of a run of the cluster to which it belongs, for one of its states.
-- K is the type of keys, and X that of versions.
use Rattle.std.specs.Prelude.{◌≡◌, ◌⊎◌, ℕ, if◌then◌else◌, List, [], map, take, Result, Ok, Err, All}
use Rattle.am_wire.specs.declared.unknown.Unknown.{Unknown}
use Rattle.am_silence.specs.Mesh.{IsMesh}
use Rattle.am_nflog.specs.Mesh.{IsMesh as IsLogMesh}
use Rattle.am_gossip.specs.declared.frame.Frame.{Frame}
use Rattle.am_merge.specs.Maps.{at}
use Rattle.am_collect.specs.Events.{Events, last_moment}
use Rattle.am_collect.specs.Kept.{Kept}
use Rattle.am_runs.specs.declared.step.DeliverySource.{DeliverySource}
use Rattle.am_runs.specs.declared.step.DeliverySource.TheVariants.{Made}
use Rattle.am_runs.specs.Steps.{RunStep, SentFrame}
use Rattle.am_runs.specs.Steps.RunStep.{Took, Ticked, Back, Refused}
use Rattle.am_runs.specs.Members.{map_of}
use Rattle.am_runs.specs.Runs.{AreFrom}
use Rattle.am_instance.specs.declared.event.Event.{Event}
use Rattle.am_instance.specs.declared.event.Event.TheVariants as events
use Rattle.am_gossip.specs.declared.refusals.StepError.{StepError}
use Rattle.am_gossip.specs.declared.refusals.StepError.TheVariants.{MomentBack, Memory}
use Rattle.am_instance.specs.declared.reply.Outcome.{Outcome}
use Rattle.am_instance.specs.InstanceStates.{InstanceState}
use Rattle.am_instance.specs.Steps.{brought, collects, delivers}
use Rattle.am_instance.specs.Laws.{HasMaps}
use Rattle.am_cluster.specs.BothStates.{StateOf}
use Rattle.am_cluster.specs.Contents.{carries, IsValue}

-- the map with the moment of its last event is what the past leaves of the empty map
pub record HasGoneThrough {K X : Type 0} (state : StateOf K X) (past : Events X) (kept : Kept X) : Type 0 where
  pub map : (key : K) → at state.seen state.cmp kept.held key ≡ map_of state.seen state.cmp past key
  pub last : kept.last ≡ last_moment 0 past

-- `unknown` is the treatment of unknown fields when a frame is read
module _ {K X : Type 0} (state : StateOf K X) (unknown : Unknown) where
  -- the versions of the state in each of the frames
  abbrev pub sent_in : List (ℕ × Frame) → List (List X)
  sent_in frames = map (λ frame. state.versions_in (carries unknown frame.1)) frames

  -- the frames as flights that begin at a moment
  abbrev pub flights_in : ℕ → List (ℕ × Frame) → List (SentFrame X)
  flights_in now frames = map (λ frame. record { sent = now; versions = state.versions_in (carries unknown frame.1) }) frames

  -- The recorded step of the member at a place, by its event, its answer and the frames that it left in flight. A step that memory
  -- stopped delivered only the first versions, and sent nothing.
  abbrev pub event_step : ℕ → ℕ → DeliverySource → Event → Result Outcome StepError → List (ℕ × Frame) → RunStep X
  event_step place now source event (Ok outcome) frames =
      if collects event then Ticked place now else Took place now source (state.versions_in (delivers unknown event outcome.made)) (sent_in frames)
  event_step place now source event (Err (Memory taken)) frames = Took place now source (state.versions_in (take taken (brought unknown event))) []
  event_step place now source event (Err (MomentBack last)) frames = Back place now
  event_step place now source event (Err _) frames = Refused now

  -- a frame's versions come from where the source says, and everything else is made by the step
  abbrev pub HasSource : ℕ → List (RunStep X) → ℕ → Event → DeliverySource → Type 0
  HasSource members before now (events.Frame sender frame) source =
      AreFrom state.seen state.cmp members before now source (state.versions_in (carries unknown frame))
  HasSource members before now _ source = source ≡ Made

-- all frames that a step sent are in flight after it, or none
abbrev pub AreInFlight : Result Outcome StepError → List (ℕ × Frame) → Type 0
AreInFlight (Ok outcome) frames = (frames ≡ outcome.frames.items) ⊎ (frames ≡ [])
AreInFlight (Err e) frames = frames ≡ []

-- the versions that a step delivered, and those that are held after it, are values; both held lists are maps
pub record AreValues (unknown : Unknown) (event : Event) (outcome : Outcome) (new : InstanceState) : Type 0 where
  pub delivered : All IsValue (delivers unknown event outcome.made)
  pub silences : All IsMesh new.silences
  pub log : All IsLogMesh new.log
  pub maps : HasMaps new
