-- The settle of the members of a cluster: each collects, then the first takes the maps of all others, and they take its.
use Rattle.am_wire.specs.declared.unknown.Unknown.{Unknown}
use Rattle.std.specs.Prelude.{◌≡◌, ◌⊎◌, ℕ, ◌-◌, ◌<◌, ◌≤◌, Bool, true, false, List, [], ◌∷◌, ◌++◌, map, filter, length, max}
use Rattle.std.specs.Prelude.{nat_lt, slice_get, All, Any, Option, Some, None, Result, Ok, Err}
use Rattle.std.specs.List.{range_with_len}
use Rattle.am_gossip.specs.declared.frame.Frame.TheVariants as frames
use Rattle.am_instance.specs.declared.event.Event.{Event}
use Rattle.am_instance.specs.declared.event.Event.TheVariants as events
use Rattle.am_instance.specs.declared.reply.Reply.{Reply}
use Rattle.am_instance.specs.Sendings.{whole_state}
use Rattle.am_instance.specs.Deliveries.Delivery.{OfEntry, OfSilence}
use Rattle.am_instance.specs.Laws.{HasMaps}
use Rattle.am_instance.specs.InstanceStates.{InstanceState}
use Rattle.am_snapshot.specs.Encodings.{row_encoding}
use Rattle.am_wire.specs.Limits.{most}
use Rattle.am_merge.specs.Maps.{at, swept}
use Rattle.am_cluster.specs.BothStates.{StateOf, log_state, silence_state}
use Rattle.am_cluster.specs.Contents.{IsReadable}
use Rattle.am_silence.specs.Mesh.{mesh_version}
use Rattle.am_nflog.specs.Mesh.{mesh_version as entry_version}
use Rattle.am_runs.specs.Settles.{join_of}
use Rattle.am_runs.specs.declared.step.DeliverySource.TheVariants.{Made, Lent}
use Rattle.am_runs.specs.Steps.RunStep.{Back, Refused}
use Rattle.am_cluster.specs.Accounts.{Account}
use Rattle.am_cluster.specs.declared.error.ClusterError.{ClusterError}
use Rattle.am_cluster.specs.declared.error.ClusterError.TheVariants as cluster_errors
use Rattle.am_cluster.specs.declared.error.SettleError.{SettleError}
use Rattle.am_cluster.specs.declared.error.SettleError.TheVariants as errors
use Rattle.am_cluster.specs.Worlds.{Replica, World, replica_at, with_room, written}
use Rattle.am_cluster.specs.Events.{HasHappened}

-- the event that comes to a member that takes the maps of the one at a place
abbrev pub loan : ℕ → InstanceState → Event
loan lender lent = events.Frame lender (frames.Pull (whole_state lent.silences lent.log))

-- The instance can lend both maps: each version in them is a value that is read again from its text, whatever is done with unknown
-- fields, so that a loan brings just the maps; and the row of neither is longer than a row may be.
pub record CanLend (stand : InstanceState) : Type 0 where
  pub maps : HasMaps stand
  pub silences : (unknown : Unknown) → All (IsReadable unknown) (map OfSilence stand.silences)
  pub log : (unknown : Unknown) → All (IsReadable unknown) (map OfEntry stand.log)
  pub silences_fit : length (row_encoding mesh_version stand.silences) ≤ most
  pub log_fit : length (row_encoding entry_version stand.log) ≤ most

-- ---- the turns of a settle

-- a member collects, or one takes the maps of another
pub data Turn : Type 0 where
  Collects : (place : ℕ) → Turn
  Takes : (borrower lender : ℕ) → Turn

-- the turns in which each member collects
abbrev pub collections : ℕ → List Turn
collections members = map Collects (range_with_len 0 members)

-- the turns in which the first takes the maps of all others, in their order
abbrev pub gatherings : ℕ → List Turn
gatherings members = map (λ place. Takes 0 place) (range_with_len 1 (members - 1))

-- the turns in which each of them takes those of the first
abbrev pub spreadings : ℕ → List Turn
spreadings members = map (λ place. Takes place 0) (range_with_len 1 (members - 1))

-- the turns of a settle, in their order
abbrev pub all_turns : ℕ → List Turn
all_turns members = collections members ++ (gatherings members ++ spreadings members)

-- the outcome of the event of a turn
abbrev pub IsTurn : World → Turn → ℕ → ℕ → Result Reply ClusterError → World → Type 0
IsTurn old (Collects place) now line result new =
    (replica : Replica) × (replica_at old place ≡ Some replica) × HasHappened old place replica events.Tick Made now line result new
IsTurn old (Takes borrower lender) now line result new =
    (replica : Replica) × (lent : Replica) × (replica_at old borrower ≡ Some replica) × (replica_at old lender ≡ Some lent)
    × CanLend lent.stand × HasHappened old borrower replica (loan lender lent.stand) (Lent lender) now line result new

-- a turn was answered
abbrev pub IsMade : World → Turn → ℕ → ℕ → World → Type 0
IsMade old turn now line new = (reply : Reply) × IsTurn old turn now line (Ok reply) new

-- A turn found no memory: what was delivered stands, or there was no room for it and nothing has changed. The latter is also the
-- answer if the maps of a member are to be taken that can't be lent because the row of one is too long.
abbrev pub IsStopped : World → Turn → ℕ → ℕ → World → Type 0
IsStopped old turn now line new = (new ≡ old) ⊎ IsTurn old turn now line (Err cluster_errors.Memory) new

-- turns were made, one after the other
abbrev pub AreTurnsMade : World → List Turn → ℕ → ℕ → World → Type 0
AreTurnsMade old [] now line new = new ≡ old
AreTurnsMade old (turn ∷ turns) now line new = (between : World) × IsMade old turn now line between × AreTurnsMade between turns now line new

-- the first turns were made, and the next one found no memory
pub record AreCutShort (old : World) (turns : List Turn) (now line : ℕ) (new : World) : Type 0 where
  pub made : List Turn
  pub turn : Turn
  pub left : List Turn
  pub all : turns ≡ made ++ turn ∷ left
  pub between : World
  pub first : AreTurnsMade old made now line between
  pub stopped : IsStopped between turn now line new

-- the outcome of turns, one after the other
abbrev pub AreTurns : World → List Turn → ℕ → ℕ → Result Unit SettleError → World → Type 0
AreTurns old turns now line (Ok _) new = AreTurnsMade old turns now line new
AreTurns old turns now line (Err errors.Memory) new = AreCutShort old turns now line new
AreTurns old turns now line (Err _) new = ⊥

-- ---- the settle

-- every member runs, and its last moment is not after this one
pub record CanSettle (world : World) (now : ℕ) : Type 0 where
  pub runs : (place : ℕ) (replica : Replica) → replica_at world place ≡ Some replica → replica.runs ≡ true
  pub forward : (place : ℕ) (replica : Replica) → replica_at world place ≡ Some replica → replica.stand.last ≤ now

-- a member is stopped
abbrev pub HasStopped : List Replica → Type 0
HasStopped replicas = Any (λ replica. replica.runs ≡ false) replicas

-- a member's last moment is after this one
abbrev pub HasLate : ℕ → List Replica → Type 0
HasLate now replicas = Any (λ replica. now < replica.stand.last) replicas

-- true if the last moment of a member, if there is one, is after this one
abbrev pub is_late : ℕ → Option Replica → Bool
is_late now None = false
is_late now (Some replica) = nat_lt now replica.stand.last

-- the places of the members whose last moments are after this one
abbrev pub late_places : List Replica → ℕ → List ℕ
late_places replicas now = filter (λ place. is_late now (slice_get replicas place)) (range_with_len 0 (length replicas))

-- the cluster after a step was refused to the members at these places because the moment is before their last one, all in one line
abbrev pub with_backs : World → List ℕ → ℕ → ℕ → World
with_backs world places now line = record world {
  silences = world.silences ++ map (λ place. Back place now) places;
  log = world.log ++ map (λ place. Back place now) places;
  lines = world.lines ++ map (λ place. line) places;
  room = world.room - length places;
}

-- the same of a journal
pub record HasBacks (old : Account) (places : List ℕ) (now line : ℕ) (new : Account) : Type 0 where
  pub members : new.members ≡ old.members
  pub silences : new.silences ≡ old.silences ++ map (λ place. Back place now) places
  pub log : new.log ≡ old.log ++ map (λ place. Back place now) places
  pub lines : new.lines ≡ old.lines ++ map (λ place. line) places
  pub room : new.room ≡ old.room - length places

-- a member is stopped: nothing happens to any member, and the moment is recorded
abbrev pub IsRefusedAsStopped : World → ℕ → ℕ → World → Type 0
IsRefusedAsStopped old now line new = HasStopped old.replicas × (new ≡ written old (Refused now) (Refused now) line)

-- nothing happens either, but it counts against each member whose last moment is after this one, with room for one step of each
-- member
abbrev pub IsRefusedAsBack : World → ℕ → ℕ → World → Type 0
IsRefusedAsBack old now line new = (¬ HasStopped old.replicas) × HasLate now old.replicas
    × (new ≡ with_backs (with_room old (length old.replicas)) (late_places old.replicas now) now line)

-- There was no memory to begin, and nothing has changed. If there was room for a step of each member, a refusal is told instead,
-- and so is a settle of no members.
pub record IsUnbegun (old new : World) : Type 0 where
  pub world : new ≡ old
  pub without_room : old.room < max 1 (length old.replicas)

-- The cluster of these members when a settle begins. Each turn is recorded with its moment; if there is no member, and so no turn,
-- only the moment is recorded.
abbrev pub begun : List Replica → World → ℕ → ℕ → World
begun [] world now line = written world (Refused now) (Refused now) line
begun (first ∷ others) world now line = world

-- the outcome of the check whether the members can settle
abbrev pub IsAdmitted : World → ℕ → ℕ → Result Unit SettleError → World → Type 0
IsAdmitted old now line (Ok _) new = CanSettle old now × (new ≡ begun old.replicas old now line)
IsAdmitted old now line (Err errors.Stopped) new = IsRefusedAsStopped old now line new
IsAdmitted old now line (Err errors.MomentBack) new = IsRefusedAsBack old now line new
IsAdmitted old now line (Err errors.Memory) new = IsUnbegun old new

-- The outcome of a settle: all its turns; a refusal; or, for want of memory, which is also told of a map with too long a row,
-- nothing or only the first turns.
abbrev pub IsSettle : World → ℕ → ℕ → Result Unit SettleError → World → Type 0
IsSettle old now line (Ok _) new =
    CanSettle old now × AreTurnsMade (begun old.replicas old now line) (all_turns (length old.replicas)) now line new
IsSettle old now line (Err errors.Stopped) new = IsRefusedAsStopped old now line new
IsSettle old now line (Err errors.MomentBack) new = IsRefusedAsBack old now line new
IsSettle old now line (Err errors.Memory) new =
    IsUnbegun old new ⊎ (CanSettle old now × AreCutShort old (all_turns (length old.replicas)) now line new)

-- ---- the result of a settle

module _ {K X : Type 0} (state : StateOf K X) where
  -- the versions that a member holds, if there is one
  abbrev pub held_of : Option Replica → List X
  held_of None = []
  held_of (Some replica) = (state.kept replica.stand).held

  -- all members hold one map: at each key the greatest version of it that any member held and that was live
  abbrev pub HoldTheJoin : World → ℕ → World → Type 0
  HoldTheJoin old now new = (place : ℕ) (replica : Replica) → replica_at new place ≡ Some replica → (key : K) →
      at state.seen state.cmp (state.kept replica.stand).held key ≡ join_of state.seen (length old.replicas)
      (λ other. at state.seen state.cmp (swept state.seen now (held_of (replica_at old other)))) key

-- all members hold the join of both states
pub record HasSettled (old : World) (now : ℕ) (new : World) : Type 0 where
  pub members : length new.replicas ≡ length old.replicas
  pub silences : HoldTheJoin silence_state old now new
  pub log : HoldTheJoin log_state old now new
