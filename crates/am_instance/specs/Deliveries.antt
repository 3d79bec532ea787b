-- The versions of both states that an event delivers, in the order in which they are taken.
use Rattle.std.specs.Prelude.{ℕ, List, [], ◌∷◌, map, Option, Some, None, Result, Ok, Err}
use Rattle.std.specs.List.{flat_map}
use Rattle.am_wire.specs.declared.error.WireError.{WireError}
use Rattle.am_wire.specs.declared.unknown.Unknown.{Unknown}
use Rattle.am_wire.specs.Inputs.{messages_of}
use Rattle.am_wire.specs.Unknown.{StaysWhole}
use Rattle.am_silence.specs.Mesh.{Mesh, without_unknown}
use Rattle.am_silence.specs.MeshTable.{reads_mesh_silence}
use Rattle.am_nflog.specs.Mesh.{Mesh as LogMesh, without_unknown as entry_without_unknown}
use Rattle.am_nflog.specs.MeshTable.{reads_mesh_entry}
use Rattle.am_gossip.specs.declared.frame.Part.{Part}
use Rattle.am_gossip.specs.declared.frame.Frame.{Frame}
use Rattle.am_gossip.specs.declared.frame.Frame.TheVariants.{Delta, Push, Pull, Tick}
use Rattle.am_gossip.specs.declared.frame.StateKey.TheVariants.{Sil, Nfl}
use Rattle.am_collect.specs.Events.{MapEvent, Events}
use Rattle.am_collect.specs.Events.MapEvent.{Delivered, Passed}

-- a version of one of the states
pub data Delivery : Type 0 where
  OfSilence : (version : Mesh) → Delivery
  OfEntry : (version : LogMesh) → Delivery

-- nothing of the version is lost when it is read again: unknown fields are kept, or it has none
abbrev pub IsWhole : Unknown → Delivery → Type 0
IsWhole unknown (OfSilence v) = StaysWhole without_unknown unknown v
IsWhole unknown (OfEntry e) = StaysWhole entry_without_unknown unknown e

-- the event that a delivery is to the map of silences: a version of the other state is only a moment
abbrev pub to_silences : Delivery → MapEvent Mesh
to_silences (OfSilence v) = Delivered v
to_silences (OfEntry e) = Passed

-- the event that a delivery is to the log
abbrev pub to_log : Delivery → MapEvent LogMesh
to_log (OfSilence v) = Passed
to_log (OfEntry e) = Delivered e

-- deliveries at a moment, as events of a map: the moment passes, then one version comes after the other
abbrev pub events_at : {X : Type 0} → (Delivery → MapEvent X) → ℕ → List Delivery → Events X
events_at of_delivery now ds = (Passed, now) ∷ map (λ d. (of_delivery d, now)) ds

-- ---- the rows of a frame

-- the values that were read before the first fault
abbrev pub before_fault : {A E : Type 0} → List (Result A E) → List A
before_fault [] = []
before_fault (Ok x ∷ items) = x ∷ before_fault items
before_fault (Err e ∷ items) = []

-- the first fault of what was read, if any
abbrev pub first_fault : {A E : Type 0} → List (Result A E) → Option E
first_fault [] = None
first_fault (Ok x ∷ items) = first_fault items
first_fault (Err e ∷ items) = Some e

-- a version that was read, as a delivery
abbrev pub read_as : {A B E : Type 0} → (A → B) → Result A E → Result B E
read_as of_version (Ok v) = Ok (of_version v)
read_as of_version (Err e) = Err e

-- the rows of a part, each read by the policy for unknown fields, up to the first fault
unfoldable pub rows_of : Unknown → Part → List (Result Delivery WireError)
rows_of unknown part = elim part.key [
  | Sil ↦ map (read_as OfSilence) (messages_of (reads_mesh_silence unknown) part.bytes)
  | Nfl ↦ map (read_as OfEntry) (messages_of (reads_mesh_entry unknown) part.bytes)
]

-- the parts of a frame
abbrev pub parts_of : Frame → List Part
parts_of (Delta part) = part ∷ []
parts_of (Push parts) = parts
parts_of (Pull parts) = parts
parts_of Tick = []

-- the rows of parts, in the order of the parts
abbrev pub rows_in : Unknown → List Part → List (Result Delivery WireError)
rows_in unknown parts = flat_map (rows_of unknown) parts
