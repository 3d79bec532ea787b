-- Frames in flight: how one is found by its number, and how it is lost.
use Rattle.std.specs.Prelude.{◌≡◌, ◌≢◌, ℕ, List, ◌∷◌, ◌++◌, Some, Result, Ok, Err, slice_get, Contains}
use Rattle.am_instance.specs.declared.reply.Reply.{Reply}
use Rattle.am_instance.specs.declared.reply.Reply.TheVariants.{Nothing}
use Rattle.am_cluster.specs.declared.error.ClusterError.{ClusterError}
use Rattle.am_cluster.specs.declared.error.ClusterError.TheVariants as errors
use Rattle.am_cluster.specs.declared.flight.Flight.{Flight}
use Rattle.am_cluster.specs.Worlds.{World}

-- the frame at this place among those in flight has the number
pub record IsNumberedAt (flights : List Flight) (number index : ℕ) : Type 0 where
  pub flight : Flight
  pub place : slice_get flights index ≡ Some flight
  pub bears : flight.number ≡ number

-- no frame in flight has the number
abbrev pub IsNoNumber : List Flight → ℕ → Type 0
IsNoNumber flights number = (flight : Flight) → Contains flights flight → flight.number ≢ number

-- the frame of the number no longer flies, and the others do in their order
pub record HasLost (old : World) (number : ℕ) (new : World) : Type 0 where
  pub before : List Flight
  pub flight : Flight
  pub after : List Flight
  pub flights : old.flights ≡ before ++ flight ∷ after
  pub bears : flight.number ≡ number
  pub world : new ≡ record old { flights = before ++ after }

-- the outcome of losing the frame of a number
abbrev pub IsLoss : World → ℕ → Result Reply ClusterError → World → Type 0
IsLoss old number (Ok reply) new = (reply ≡ Nothing) × HasLost old number new
IsLoss old number (Err errors.NoFrame) new = IsNoNumber old.flights number × (new ≡ old)
IsLoss old number (Err _) new = ⊥
