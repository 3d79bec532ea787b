-- A cluster as contracts see it.
use Rattle.std.specs.Prelude.{ℕ, ◌+◌, ◌-◌, max, Bool, List, [], ◌∷◌, ◌++◌, length, set, Option, slice_get}
use Rattle.am_silence.specs.Mesh.{Mesh}
use Rattle.am_nflog.specs.Mesh.{Mesh as LogMesh}
use Rattle.am_gossip.specs.declared.frame.Frame.{Frame}
use Rattle.am_instance.specs.InstanceStates.{InstanceState}
use Rattle.am_runs.specs.Steps.{RunStep, flights_of}
use Rattle.am_cluster.specs.declared.flight.Flight.{Flight}

-- a member: the state of its instance, whether it runs, and both maps as they were last saved, empty if nothing was
pub record Replica : Type 0 where
  pub stand : InstanceState
  pub runs : Bool
  pub saved_silences : List Mesh
  pub saved_log : List LogMesh

-- The members by their places; what every step so far was to the silences, and to the log, with its line; the frames in flight
-- by their numbers; and the number of further steps for which there is room in the record.
pub record World : Type 0 where
  pub replicas : List Replica
  pub silences : List (RunStep Mesh)
  pub log : List (RunStep LogMesh)
  pub lines : List ℕ
  pub flights : List Flight
  pub room : ℕ

-- the member at a place
abbrev pub replica_at : World → ℕ → Option Replica
replica_at world place = slice_get world.replicas place

-- the number of frames that were ever sent
abbrev pub sendings : World → ℕ
sendings world = length (flights_of world.silences)

-- the cluster with one more step in its record, and its line; it takes some of the room, if there is any
abbrev pub written : World → RunStep Mesh → RunStep LogMesh → ℕ → World
written world silences log line = record world {
  silences = world.silences ++ silences ∷ [];
  log = world.log ++ log ∷ [];
  lines = world.lines ++ line ∷ [];
  room = world.room - 1;
}

-- the cluster with room for this many more steps
abbrev pub with_room : World → ℕ → World
with_room world steps = record world { room = max world.room steps }

-- the cluster with another member at a place
abbrev pub with_replica : World → ℕ → Replica → World
with_replica world place replica = record world { replicas = set world.replicas place replica }

-- the flights of frames that a member sent at a moment, numbered on from a count of frames
abbrev pub sent_on : ℕ → ℕ → ℕ → List (ℕ × Frame) → List Flight
sent_on count sender now [] = []
sent_on count sender now (frame ∷ frames) =
    record { number = count + 1; sender = sender; addressee = frame.0; sent = now; frame = frame.1 } ∷ sent_on (count + 1) sender now frames

-- the cluster with these frames in flight, too
abbrev pub with_flights : World → ℕ → ℕ → List (ℕ × Frame) → World
with_flights world sender now frames = record world { flights = world.flights ++ sent_on (sendings world) sender now frames }
