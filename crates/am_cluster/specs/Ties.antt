-- The ties of a cluster: each member stands as its past says, and each frame in flight is one that a step sent.
-- K is the type of keys, and X that of versions.
use Rattle.am_wire.specs.declared.unknown.Unknown.TheVariants.{Drop}
use Rattle.std.specs.Prelude.{◌≡◌, ℕ, ◌+◌, ◌<◌, ◌==◌, Bool, true, false, List, [], ◌∷◌, ◌++◌, length, Option, Some, None, slice_get, Contains, Ok}
use Rattle.std.specs.List.{AllByRecursion}
use Rattle.am_merge.specs.Maps.{at}
use Rattle.am_collect.specs.Kept.{Kept}
use Rattle.am_gossip.specs.declared.frame.Frame.{Frame}
use Rattle.am_instance.specs.declared.event.Event.{Event}
use Rattle.am_instance.specs.declared.reply.Outcome.{Outcome}
use Rattle.am_instance.specs.Deliveries.{first_fault, rows_in, parts_of}
use Rattle.am_instance.specs.InstanceStates.{InstanceState, HoldsWhole}
use Rattle.am_instance.specs.OneStep.{IsStep}
use Rattle.am_runs.specs.declared.step.DeliverySource.{DeliverySource}
use Rattle.am_runs.specs.Steps.{RunStep, flights_by, flights_of, is_at}
use Rattle.am_runs.specs.Members.{Member, member_of, map_of}
use Rattle.am_cluster.specs.BothStates.{StateOf}
use Rattle.am_cluster.specs.Contents.{carries}
use Rattle.am_cluster.specs.Recorded.{HasGoneThrough, event_step}
use Rattle.am_cluster.specs.BothRuns.{RunOf, log_run, silence_run}
use Rattle.am_cluster.specs.declared.flight.Flight.{Flight}
use Rattle.am_cluster.specs.Worlds.{Replica, World, replica_at}

-- one state of a member is as the run of that state tells: whether it runs, what it holds, and what is saved of it
pub record IsTied {K X : Type 0} (state : StateOf K X) (member : Member X) (running : Bool) (kept : Kept X) (copy : List X) : Type 0 where
  pub runs : member.runs ≡ running
  pub held : HasGoneThrough state member.past kept
  pub saved : (key : K) → at state.seen state.cmp copy key ≡ map_of state.seen state.cmp member.saved key

-- The step of an instance that handed out a frame to its addressee: the step of its sender, at its moment.
pub record WasHandedOut (flight : Flight) : Type 0 where
  pub stand : InstanceState
  pub event : Event
  pub source : DeliverySource
  pub outcome : Outcome
  pub after : InstanceState
  pub step : IsStep stand event flight.sent (Ok outcome) after
  pub own_place : stand.config.place ≡ flight.sender
  pub nth : ℕ
  pub to_addressee : slice_get outcome.frames.items nth ≡ Some (flight.addressee, flight.frame)

-- A frame was sent in a run, as the one of this place among all that ever were: by that step of its sender, as the sender stood
-- then, as one of its frames, with its versions.
pub record WasSent {K X : Type 0} (state : StateOf K X) (members : ℕ) (steps : List (RunStep X)) (index : ℕ) (flight : Flight)
    (handed : WasHandedOut flight) : Type 0 where
  pub before : List (RunStep X)
  pub step : RunStep X
  pub rest : List (RunStep X)
  pub parts : steps ≡ before ++ step ∷ rest
  pub stood : HasGoneThrough state (member_of members flight.sender before).past (state.kept handed.stand)
  pub is : step ≡ event_step state Drop flight.sender flight.sent handed.source handed.event (Ok handed.outcome) handed.outcome.frames.items
  pub own : is_at flight.sender step ≡ true
  pub index_is : index ≡ length (flights_of before) + handed.nth
  pub sent : slice_get (flights_by step) handed.nth
      ≡ Some (record { sent = flight.sent; versions = state.versions_in (carries Drop flight.frame) })

module _ {K X : Type 0} (run : RunOf K X) where
  -- the member at a place, as a run of the cluster tells
  abbrev pub member_in : World → ℕ → Member X
  member_in world q = member_of (length world.replicas) q (run.steps world)

  -- the state of the member at a place is as the run tells
  abbrev pub IsTiedIn : World → ℕ → Replica → Type 0
  IsTiedIn world q replica = IsTied run.state (member_in world q) replica.runs (run.state.kept replica.stand) (run.saved replica)

  -- a frame was sent in that run
  abbrev pub IsSentIn : World → ℕ → (flight : Flight) → WasHandedOut flight → Type 0
  IsSentIn world index flight handed = WasSent run.state (length world.replicas) (run.steps world) index flight handed

-- the names that a member knows, its own among them, in their order
abbrev pub names_of : Option Replica → List (List ℕ)
names_of None = []
names_of (Some replica) = replica.stand.config.members

-- the names of all members, as the first of them knows them
abbrev pub names_in : World → List (List ℕ)
names_in world = names_of (replica_at world 0)

-- the state of a member's instance with what was saved of it
abbrev pub saved_stand : Replica → InstanceState
saved_stand replica = record replica.stand { silences = replica.saved_silences; log = replica.saved_log }

-- A member is as both runs tell, and knows its place and the names of all, in one order for all. It drops unknown fields, and
-- no version that it holds, or that was saved of it, has any.
pub record IsMember (world : World) (q : ℕ) (replica : Replica) : Type 0 where
  pub silences : IsTiedIn silence_run world q replica
  pub log : IsTiedIn log_run world q replica
  pub place : replica.stand.config.place ≡ q
  pub members : length replica.stand.config.members ≡ length world.replicas
  pub names : replica.stand.config.members ≡ names_in world
  pub unknown : replica.stand.config.unknown ≡ Drop
  pub whole : HoldsWhole replica.stand
  pub saved_whole : HoldsWhole (saved_stand replica)

-- A frame in flight is one that a step sent, under its number among all that were ever sent, from one member to another. Its
-- sender is the one that made that step, and its addressee the one to which the step sent it.
pub record IsFlying (world : World) (flight : Flight) : Type 0 where
  pub index : ℕ
  pub number : flight.number ≡ index + 1
  pub handed : WasHandedOut flight
  pub silences : IsSentIn silence_run world index flight handed
  pub log : IsSentIn log_run world index flight handed
  pub sound : first_fault (rows_in Drop (parts_of flight.frame)) ≡ None
  pub addressee : flight.addressee < length world.replicas
  pub sender : flight.sender < length world.replicas
  pub other : (flight.sender == flight.addressee) ≡ false

-- the member at a place can have sent this frame: nothing in it is at fault, and it goes to another member
pub record CanFly (members place : ℕ) (sent : ℕ × Frame) : Type 0 where
  pub no_fault : first_fault (rows_in Drop (parts_of sent.1)) ≡ None
  pub addressee : sent.0 < members
  pub other : (place == sent.0) ≡ false

-- each number is below those after it
abbrev pub AreAscending : List Flight → Type 0
AreAscending [] = Unit {0}
AreAscending (flight ∷ flights) = AllByRecursion (λ other. flight.number < other.number) flights × AreAscending flights

-- each member stands as its past tells, each frame in flight was sent, and the frames are sorted by their numbers
pub record IsWorld (world : World) : Type 0 where
  pub members : (place : ℕ) (replica : Replica) → replica_at world place ≡ Some replica → IsMember world place replica
  pub flights : (flight : Flight) → Contains world.flights flight → IsFlying world flight
  pub numbers : AreAscending world.flights
