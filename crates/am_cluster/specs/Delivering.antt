-- The delivery of a frame in flight.
use Rattle.std.specs.Prelude.{◌≡◌, ◌⊎◌, ℕ, ◌+◌, Some, Result, slice_get, Contains}
use Rattle.am_wire.specs.declared.unknown.Unknown.TheVariants.{Drop}
use Rattle.am_instance.specs.declared.event.Event.TheVariants as events
use Rattle.am_instance.specs.declared.reply.Reply.{Reply}
use Rattle.am_runs.specs.declared.step.DeliverySource.TheVariants.{Arrived}
use Rattle.am_cluster.specs.declared.resolved_event.ResolvedEvent.{ResolvedEvent}
use Rattle.am_cluster.specs.declared.resolved_event.ResolvedEvent.TheVariants as asked
use Rattle.am_cluster.specs.declared.flight.Arrival.{Arrival}
use Rattle.am_cluster.specs.declared.error.ClusterError.{ClusterError}
use Rattle.am_cluster.specs.declared.error.ClusterError.TheVariants as errors
use Rattle.am_cluster.specs.declared.flight.Flight.{Flight}
use Rattle.am_cluster.specs.declared.journal.mark.Mark.TheVariants as marks
use Rattle.am_cluster.specs.Doing.{IsDone}
use Rattle.am_cluster.specs.Lives.{OfMember}
use Rattle.am_cluster.specs.Losing.{IsNoNumber}
use Rattle.am_cluster.specs.Refusals.{IsRefused}
use Rattle.am_cluster.specs.Ties.{IsFlying}
use Rattle.am_cluster.specs.Worlds.{Replica, World, replica_at}

-- the arrival is that of a frame in flight of this number, which is about to come to a member that drops unknown fields
pub record IsArrival (world : World) (number : ℕ) (arrival : Arrival) : Type 0 where
  pub flight : Flight
  pub there : slice_get world.flights arrival.position ≡ Some flight
  pub bears : flight.number ≡ number
  pub flying : IsFlying world flight
  pub place_is : arrival.place ≡ flight.addressee
  pub sender_is : arrival.sender ≡ flight.sender
  pub index_is : arrival.index ≡ flying.index
  pub unknown : OfMember world flight.addressee (λ replica. replica.stand.config.unknown ≡ Drop)

-- the step that the frame of this index asks of its addressee
abbrev pub delivery : Flight → ℕ → ResolvedEvent
delivery flight index = asked.Event (events.Frame flight.sender flight.frame) (Arrived index)

-- the frame of this number comes to its addressee, as an event there; it stays in flight
pub record IsDelivered (old : World) (number now line : ℕ) (result : Result Reply ClusterError) (new : World) : Type 0 where
  -- the frame is in flight
  pub flight : Flight
  pub there : Contains old.flights flight
  pub bears : flight.number ≡ number
  -- the frame has this place among all that were ever sent
  pub index : ℕ
  pub index_is : flight.number ≡ index + 1
  -- the step that the frame asks for is made at its addressee
  pub done : (replica : Replica) → replica_at old flight.addressee ≡ Some replica →
      IsDone old flight.addressee replica (delivery flight index) now line result new

-- the frame of a number is delivered, or the step is refused if none in flight has the number
abbrev pub IsDelivery : World → ℕ → ℕ → ℕ → Result Reply ClusterError → World → Type 0
IsDelivery old number now line result new =
    (IsNoNumber old.flights number × IsRefused errors.NoFrame (marks.Refused now) old line result new)
    ⊎ IsDelivered old number now line result new
