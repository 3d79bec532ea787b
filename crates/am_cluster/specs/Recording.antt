-- The record of an instance's answer.
use Rattle.am_wire.specs.declared.unknown.Unknown.TheVariants.{Drop}
use Rattle.std.specs.Prelude.{◌≡◌, ℕ, ◌<◌, ◌≤◌, true, ◌-◌, List, [], ◌∷◌, ◌++◌, length, map, Result, Ok, Err, IfOk, if◌then◌else◌}
use Rattle.am_gossip.specs.declared.frame.Frame.{Frame}
use Rattle.am_instance.specs.declared.event.Event.{Event}
use Rattle.am_instance.specs.declared.event.Event.TheVariants as events
use Rattle.am_gossip.specs.declared.refusals.StepError.{StepError}
use Rattle.am_gossip.specs.declared.refusals.StepError.TheVariants as step_errors
use Rattle.am_instance.specs.declared.reply.Made.{Made}
use Rattle.am_instance.specs.declared.reply.Outcome.{Outcome}
use Rattle.am_instance.specs.declared.reply.Reply.{Reply}
use Rattle.am_instance.specs.Replies.{IsNothing}
use Rattle.am_instance.specs.Steps.{brought, collects, delivers}
use Rattle.am_runs.specs.Runs.{IsPossible}
use Rattle.am_runs.specs.Steps.{RunStep, flights_of}
use Rattle.am_cluster.specs.BothStates.{StateOf, log_state, silence_state}
use Rattle.am_cluster.specs.Contents.{delivery_of, silences_in, entries_in}
use Rattle.am_cluster.specs.States.{Sorted}
use Rattle.am_cluster.specs.Recorded.{AreInFlight, event_step}
use Rattle.am_cluster.specs.Accounts.{Account}
use Rattle.am_cluster.specs.declared.error.ClusterError.{ClusterError}
use Rattle.am_cluster.specs.declared.flight.Flight.{Flight}
use Rattle.am_cluster.specs.declared.recording.Kind.{Kind}
use Rattle.am_cluster.specs.declared.recording.Kind.TheVariants as kinds
use Rattle.am_cluster.specs.declared.recording.PendingDelivery.{PendingDelivery}
use Rattle.am_cluster.specs.declared.writing.Delivered.{Delivered}
use Rattle.am_cluster.specs.declared.writing.Entry.{Entry}
use Rattle.am_cluster.specs.Events.{IsTold}
use Rattle.am_cluster.specs.Worlds.{sent_on}

-- the kind of an event that doesn't collect: it brings versions from a peer, or may make some here
abbrev pub brings_or_makes : Event → Kind
brings_or_makes (events.Frame sender frame) = kinds.Brings
brings_or_makes _ = kinds.Makes

-- the kind of an event, by what it has to do with versions
abbrev pub kind_of : Event → Kind
kind_of event = if collects event then kinds.Collects else brings_or_makes event

-- the event was answered, or memory ran out
abbrev pub IsNoRefusal : Result Outcome StepError → Type 0
IsNoRefusal (Ok outcome) = Unit {0}
IsNoRefusal (Err (step_errors.Memory taken)) = Unit {0}
IsNoRefusal (Err _) = ⊥

-- there are no versions yet, and room for this many
pub record IsRoomFor (parted : Sorted) (count : ℕ) : Type 0 where
  pub silences : parted.silences ≡ []
  pub log : parted.log ≡ []
  pub room_for_all : count ≤ parted.room
  pub room_for_one : 1 ≤ parted.room

-- the event is of this kind, and brings these versions
pub record ComesWith (coming : PendingDelivery) (event : Event) : Type 0 where
  pub kind_is : coming.kind ≡ kind_of event
  pub brought_are : map delivery_of coming.versions.items ≡ brought Drop event

-- the versions are all that the event delivered, by state
pub record AreDelivered (event : Event) (made : Made) (versions : Delivered) : Type 0 where
  pub silences : versions.silences.items ≡ silences_in (delivers Drop event made)
  pub log : versions.log.items ≡ entries_in (delivers Drop event made)

-- the step can come next in one of the runs, whichever of its frames fly
abbrev pub CanBeNext : {K X : Type 0} → StateOf K X → ℕ → List (RunStep X) → Entry → Event → Result Outcome StepError → Type 0
CanBeNext state members steps entry event answer = (frames : List (ℕ × Frame)) → AreInFlight answer frames
    → IsPossible state.seen state.cmp members steps (event_step state Drop entry.place entry.moment entry.source event answer frames)

-- The instance gave this answer to an event, and this is known of it.
pub record CanRecord (account : Account) (entry : Entry) (event : Event) (answer : Result Outcome StepError) : Type 0 where
  pub room_for_it : 0 < account.room
  pub silences : CanBeNext silence_state account.members account.silences entry event answer
  pub log : CanBeNext log_state account.members account.log entry event answer
  pub not_refused : IsNoRefusal answer
  pub idle : IfOk answer (λ outcome. collects event ≡ true → (outcome.frames.items ≡ []) × (outcome.unsent.memory ≡ 0))
  pub brings : IfOk answer (λ outcome. brings_or_makes event ≡ kinds.Brings → IsNothing outcome.made)

-- the step stands at the end of both runs, with its line, and its frames fly
pub record IsRecorded (old : Account) (flights : List Flight) (entry : Entry) (event : Event) (answer : Result Outcome StepError)
    (result : Result Reply ClusterError) (new : Account) (after : List Flight) : Type 0 where
  pub frames : List (ℕ × Frame)
  pub told : IsTold entry.source answer frames result
  pub members : new.members ≡ old.members
  pub silences : new.silences ≡ old.silences ++ event_step silence_state Drop entry.place entry.moment entry.source event answer frames ∷ []
  pub log : new.log ≡ old.log ++ event_step log_state Drop entry.place entry.moment entry.source event answer frames ∷ []
  pub lines : new.lines ≡ old.lines ++ entry.line ∷ []
  pub room : new.room ≡ old.room - 1
  pub flights_are : after ≡ flights ++ sent_on (length (flights_of old.silences)) entry.place entry.moment frames
