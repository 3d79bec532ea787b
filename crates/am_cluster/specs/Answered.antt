-- The steps that were answered.
use Rattle.std.specs.Prelude.{◌≡◌, ◌≤◌, ℕ, true, List, [], Option, Some, None}
use Rattle.am_instance.specs.declared.event.Event.{Event}
use Rattle.am_instance.specs.declared.reply.Made.{Made}
use Rattle.am_instance.specs.declared.reply.Reply.{Reply}
use Rattle.am_instance.specs.Replies.{IsReply}
use Rattle.am_schedule.specs.declared.step.Action.{Action}
use Rattle.am_schedule.specs.declared.step.Action.TheVariants as actions
use Rattle.am_schedule.specs.declared.step.LineEvent.{LineEvent}
use Rattle.am_runs.specs.declared.step.DeliverySource.{DeliverySource}
use Rattle.am_cluster.specs.declared.resolved_event.ResolvedEvent.TheVariants as asked
use Rattle.am_cluster.specs.LineEvents.{asked_by}
use Rattle.am_cluster.specs.Replicas.{GoesOnAt}
use Rattle.am_cluster.specs.Steps.{place_in}
use Rattle.am_cluster.specs.Worlds.{Replica, World, replica_at}

-- the moment of a step, if it has one
abbrev pub moment_of : Action → Option ℕ
moment_of (actions.Event at name event) = Some at
moment_of (actions.Deliver at frame) = Some at
moment_of _ = None

-- both runs go on by just one step, of this moment
pub record GoesOnBy (earlier later : World) (now : ℕ) : Type 0 where
  pub goes : GoesOnAt earlier later now
  pub silences : goes.silences.rest ≡ []
  pub log : goes.log.rest ≡ []

-- a line asks the member at a place for this event of a moment
pub record Asks (world : World) (action : Action) (place : ℕ) (replica : Replica) (event : Event) (now : ℕ) : Type 0 where
  pub name : List ℕ
  pub line : LineEvent
  pub source : DeliverySource
  pub says : action ≡ actions.Event now name line
  pub named : place_in world name ≡ Some place
  pub found : replica_at world place ≡ Some replica
  pub asked : asked_by replica.stand.config line ≡ asked.Event event source

-- a member that runs, and whose last moment isn't past this one, replies so to an event, as it stands before that
pub record Replies (replica : Replica) (event : Event) (now : ℕ) (reply : Reply) : Type 0 where
  pub runs : replica.runs ≡ true
  pub past : replica.stand.last ≤ now
  pub made : Made
  pub is : IsReply replica.stand event now reply made
