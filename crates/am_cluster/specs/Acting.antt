-- The step of a member's instance in the cluster, and its record.
use Rattle.am_wire.specs.declared.unknown.Unknown.TheVariants.{Drop}
use Rattle.std.specs.Prelude.{◌≡◌, ℕ, true, length, List, All, Result}
use Rattle.am_instance.specs.declared.event.Event.{Event}
use Rattle.am_gossip.specs.declared.refusals.StepError.{StepError}
use Rattle.am_instance.specs.declared.reply.Outcome.{Outcome}
use Rattle.am_instance.specs.declared.reply.Reply.{Reply}
use Rattle.am_instance.specs.InstanceStates.{InstanceState, HoldsWhole}
use Rattle.am_instance.specs.Steps.{IsAccepted}
use Rattle.am_instance.specs.OneStep.{IsStep}
use Rattle.am_runs.specs.Members.{member_of}
use Rattle.am_runs.specs.Steps.{RunStep}
use Rattle.am_cluster.specs.BothStates.{StateOf, log_state, silence_state}
use Rattle.am_cluster.specs.Recorded.{HasGoneThrough, HasSource}
use Rattle.am_cluster.specs.Accounts.{Account}
use Rattle.am_cluster.specs.declared.error.ClusterError.{ClusterError}
use Rattle.am_cluster.specs.declared.flight.Flight.{Flight}
use Rattle.am_cluster.specs.declared.writing.Entry.{Entry}
use Rattle.am_cluster.specs.Recording.{IsRecorded}
use Rattle.am_cluster.specs.Ties.{CanFly}

-- as one of the runs tells, the member runs, its instance stands where its past leaves it, and the event can come to it
pub record CanHappenIn {K X : Type 0} (state : StateOf K X) (members : ℕ) (steps : List (RunStep X)) (entry : Entry) (event : Event)
    (stand : InstanceState) : Type 0 where
  pub runs : (member_of members entry.place steps).runs ≡ true
  pub gone : HasGoneThrough state (member_of members entry.place steps).past (state.kept stand)
  pub from : HasSource state Drop members steps entry.moment event entry.source

-- both runs tell so, the instance refuses the event for no other cause than memory, it knows its place, and it drops unknown
-- fields, so that no version that it holds has any
pub record CanHappen (account : Account) (entry : Entry) (event : Event) (stand : InstanceState) : Type 0 where
  pub silences : CanHappenIn silence_state account.members account.silences entry event stand
  pub log : CanHappenIn log_state account.members account.log entry event stand
  pub accepted : IsAccepted stand event entry.moment
  pub own_place : stand.config.place ≡ entry.place
  pub all_members : length stand.config.members ≡ account.members
  pub unknown : stand.config.unknown ≡ Drop
  pub whole : HoldsWhole stand

-- the instance made its step, which is recorded, and its frames fly to other members
pub record HasActed (old : Account) (flights : List Flight) (entry : Entry) (event : Event) (before : InstanceState)
    (result : Result Reply ClusterError) (new : Account) (after : List Flight) (stand : InstanceState) : Type 0 where
  pub answer : Result Outcome StepError
  pub step : IsStep before event entry.moment answer stand
  pub recorded : IsRecorded old flights entry event answer result new after
  pub can_fly : All (CanFly old.members entry.place) recorded.frames
