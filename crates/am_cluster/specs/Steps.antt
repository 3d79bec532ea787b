-- The effects of a step of a schedule on the cluster.
use Rattle.am_wire.specs.declared.unknown.Unknown.TheVariants.{Drop}
use Rattle.std.specs.Prelude.{◌≡◌, ◌⊎◌, ℕ, List, Option, Some, None, Result, Err, option_and_then}
use Rattle.am_silence.specs.Mesh.{Mesh}
use Rattle.am_nflog.specs.Mesh.{Mesh as LogMesh}
use Rattle.am_runs.specs.Steps.{RunStep}
use Rattle.am_cluster.specs.BothStates.{log_state, silence_state}
use Rattle.am_cluster.specs.Recorded.{HasSource}
use Rattle.am_schedule.specs.declared.step.Action.{Action}
use Rattle.am_schedule.specs.declared.step.Action.TheVariants as actions
use Rattle.am_schedule.specs.declared.step.LineEvent.{LineEvent}
use Rattle.am_instance.specs.Configs.{place_named}
use Rattle.am_instance.specs.declared.reply.Reply.{Reply}
use Rattle.am_cluster.specs.declared.resolved_event.ResolvedEvent.{ResolvedEvent}
use Rattle.am_cluster.specs.declared.resolved_event.ResolvedEvent.TheVariants as asked
use Rattle.am_cluster.specs.LineEvents.{asked_by}
use Rattle.am_cluster.specs.declared.error.ClusterError.{ClusterError}
use Rattle.am_cluster.specs.declared.error.ClusterError.TheVariants as errors
use Rattle.am_cluster.specs.declared.journal.mark.Mark.TheVariants as marks
use Rattle.am_cluster.specs.Doing.{IsDone}
use Rattle.am_cluster.specs.Delivering.{IsDelivery}
use Rattle.am_cluster.specs.Lives.{IsSave, IsStop}
use Rattle.am_cluster.specs.Losing.{IsLoss}
use Rattle.am_cluster.specs.Refusals.{IsRefused}
use Rattle.am_cluster.specs.Worlds.{Replica, World, replica_at}

-- the place of the member of a name, as the first member knows all of them
abbrev pub place_in : World → List ℕ → Option ℕ
place_in world name = option_and_then (λ replica. place_named replica.stand.config name) (replica_at world 0)

-- the versions that an event brings come from where it says, in any run
abbrev pub Fits : ResolvedEvent → Type 0
Fits (asked.Event event source) = (members now : ℕ) →
    ((before : List (RunStep Mesh)) → HasSource silence_state Drop members before now event source)
    × ((before : List (RunStep LogMesh)) → HasSource log_state Drop members before now event source)
Fits _ = Unit {0}

-- this one is the member of a name
pub record IsNamed (world : World) (name : List ℕ) (place : ℕ) (replica : Replica) : Type 0 where
  pub named : place_in world name ≡ Some place
  pub found : replica_at world place ≡ Some replica

-- The outcome of a step of a schedule: `old` is the cluster before it, `new` the one after it, and `result` the answer.
pub record IsStepped (old : World) (action : Action) (line : ℕ) (result : Result Reply ClusterError) (new : World) : Type 0 where
  -- the event that a line asks of the member of a name is done there
  pub event : (at : ℕ) (name : List ℕ) (event : LineEvent) (place : ℕ) (replica : Replica) → action ≡ actions.Event at name event →
      IsNamed old name place replica → IsDone old place replica (asked_by replica.stand.config event) at line result new
  -- if no member has the name, it is refused as that of an unknown peer, and that is recorded
  pub event_of_nobody : (at : ℕ) (name : List ℕ) (event : LineEvent) → action ≡ actions.Event at name event →
      place_in old name ≡ None → IsRefused errors.UnknownPeer (marks.Refused at) old line result new
  -- the member of a name is stopped
  pub stop : (name : List ℕ) (place : ℕ) (replica : Replica) → action ≡ actions.Stop name →
      IsNamed old name place replica → IsStop old place replica line result new
  -- the member of a name is saved
  pub save : (name : List ℕ) (place : ℕ) (replica : Replica) → action ≡ actions.Save name →
      IsNamed old name place replica → IsSave old place replica line result new
  -- if no member has the name, neither is done, and nothing is recorded
  pub nobody : (name : List ℕ) → (action ≡ actions.Stop name) ⊎ (action ≡ actions.Save name) →
      place_in old name ≡ None → (result ≡ Err errors.UnknownPeer) × (new ≡ old)
  -- the frame of a number comes to its addressee
  pub deliver : (at number : ℕ) → action ≡ actions.Deliver at number → IsDelivery old number at line result new
  -- the frame of a number is lost
  pub lose : (number : ℕ) → action ≡ actions.Lose number → IsLoss old number result new
