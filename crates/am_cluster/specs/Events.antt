-- The effects of a member's event on the cluster.
use Rattle.am_wire.specs.declared.unknown.Unknown.TheVariants.{Drop}
use Rattle.std.specs.Prelude.{◌≡◌, ◌⊎◌, ℕ, ◌<◌, Bool, true, false, List, [], Result, Ok, Err, length, if◌then◌else◌}
use Rattle.am_gossip.specs.declared.frame.Frame.{Frame}
use Rattle.am_instance.specs.declared.event.Event.{Event}
use Rattle.am_gossip.specs.declared.refusals.StepError.{StepError}
use Rattle.am_gossip.specs.declared.refusals.StepError.TheVariants.{Memory}
use Rattle.am_instance.specs.declared.reply.Outcome.{Outcome}
use Rattle.am_instance.specs.declared.reply.Reply.{Reply}
use Rattle.am_instance.specs.InstanceStates.{InstanceState}
use Rattle.am_instance.specs.OneStep.{IsStep}
use Rattle.am_instance.specs.Steps.{IsAccepted}
use Rattle.am_runs.specs.declared.step.DeliverySource.{DeliverySource}
use Rattle.am_runs.specs.declared.step.DeliverySource.TheVariants.{Lent}
use Rattle.am_cluster.specs.BothStates.{log_state, silence_state}
use Rattle.am_cluster.specs.Recorded.{event_step}
use Rattle.am_cluster.specs.declared.error.ClusterError.{ClusterError}
use Rattle.am_cluster.specs.declared.error.ClusterError.TheVariants as errors
use Rattle.am_cluster.specs.Refusals.{IsUnmade}
use Rattle.am_cluster.specs.Worlds.{Replica, World, with_flights, with_replica, written}

-- true if the frames that come out of a step are dropped: those of a member that takes the maps of another are
abbrev pub drops : DeliverySource → Bool
drops (Lent lender) = true
drops _ = false

-- the frames of a step that fly
abbrev pub flown : DeliverySource → List (ℕ × Frame) → List (ℕ × Frame)
flown source frames = if drops source then [] else frames

-- the outcome was to send a frame that found no memory, or has frames that may still find none to fly
abbrev pub SendsFrames : Outcome → Type 0
SendsFrames outcome = (0 < outcome.unsent.memory) ⊎ (0 < length outcome.frames.items)

-- The cluster tells this of what the instance answered, and these frames fly then. Want of memory is told if a frame was to be sent
-- and isn't dropped, and then none of them flies; or if the instance found no memory for all that was delivered.
abbrev pub IsTold : DeliverySource → Result Outcome StepError → List (ℕ × Frame) → Result Reply ClusterError → Type 0
IsTold source (Ok outcome) frames (Ok reply) =
    (reply ≡ outcome.reply) × (frames ≡ flown source outcome.frames.items) × (drops source ≡ false → outcome.unsent.memory ≡ 0)
IsTold source (Ok outcome) frames (Err error) =
    (error ≡ errors.Memory) × (frames ≡ []) × (drops source ≡ false) × SendsFrames outcome
IsTold source (Err (Memory taken)) frames (Err error) = (error ≡ errors.Memory) × (frames ≡ [])
IsTold source _ _ _ = ⊥

-- a member with another state of its instance
abbrev pub with_stand : Replica → InstanceState → Replica
with_stand replica stand = record replica { stand = stand }

-- the member runs, and no cause applies for which its instance refuses the event, apart from memory
pub record CanHave (replica : Replica) (event : Event) (now : ℕ) : Type 0 where
  pub runs : replica.runs ≡ true
  pub accepted : IsAccepted replica.stand event now

-- the instance of a member that runs makes its step, which is recorded, and its frames fly
pub record HasHappened (old : World) (place : ℕ) (replica : Replica) (event : Event) (source : DeliverySource) (now line : ℕ)
    (result : Result Reply ClusterError) (new : World) : Type 0 where
  pub runs : replica.runs ≡ true
  -- the instance answers this, and stands there afterwards
  pub answer : Result Outcome StepError
  pub stand : InstanceState
  pub step : IsStep replica.stand event now answer stand
  -- these frames fly then, and the cluster gives this answer
  pub frames : List (ℕ × Frame)
  pub told : IsTold source answer frames result
  -- the step is recorded in both runs, and nothing else changes
  pub world : new ≡
      written (with_flights (with_replica old place (with_stand replica stand)) place now frames)
      (event_step silence_state Drop place now source event answer frames) (event_step log_state Drop place now source event answer frames) line

-- the outcome of an event that a member can have
abbrev pub IsEvent : World → ℕ → Replica → Event → DeliverySource → ℕ → ℕ → Result Reply ClusterError → World → Type 0
IsEvent old place replica event source now line result new =
    IsUnmade old result new ⊎ HasHappened old place replica event source now line result new
