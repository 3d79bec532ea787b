-- The versions that a frame carries.
use Rattle.std.specs.Prelude.{ℕ, ◌≤◌, List, [], ◌∷◌, ◌++◌, map, length}
use Rattle.am_wire.specs.declared.unknown.Unknown.{Unknown}
use Rattle.am_wire.specs.Limits.{most}
use Rattle.am_silence.specs.Mesh.{Mesh, IsMesh, mesh_version}
use Rattle.am_nflog.specs.Mesh.{Mesh as LogMesh, IsMesh as IsLogMesh, mesh_version as entry_version}
use Rattle.am_gossip.specs.declared.frame.Frame.{Frame}
use Rattle.am_instance.specs.Deliveries.{Delivery, IsWhole, before_fault, parts_of, rows_in}
use Rattle.am_instance.specs.Deliveries.Delivery.{OfSilence, OfEntry}
use Rattle.am_cluster.specs.declared.carried.version.AnyVersion.{AnyVersion}
use Rattle.am_cluster.specs.declared.carried.version.AnyVersion.TheVariants.{Silence, Entry}

-- a version that was read, as a delivery
abbrev pub delivery_of : AnyVersion → Delivery
delivery_of (Silence v) = OfSilence v
delivery_of (Entry e) = OfEntry e

-- the versions in the rows of a frame's parts up to the first fault, read with this treatment of unknown fields
abbrev pub carries : Unknown → Frame → List Delivery
carries unknown frame = before_fault (rows_in unknown (parts_of frame))

-- the version is a value of its type
abbrev pub IsValue : Delivery → Type 0
IsValue (OfSilence v) = IsMesh v
IsValue (OfEntry e) = IsLogMesh e

-- the text of a version
abbrev pub content_of : Delivery → List ℕ
content_of (OfSilence v) = (mesh_version v).content
content_of (OfEntry e) = (entry_version e).content

-- the version is read again from its text: it is a value of which nothing is lost, and it is no longer than a row may hold
pub record IsReadable (unknown : Unknown) (d : Delivery) : Type 0 where
  pub value : IsValue d
  pub short : length (content_of d) ≤ most
  pub whole : IsWhole unknown d

-- all versions of both maps, the silences first
abbrev pub held_in : List Mesh → List LogMesh → List Delivery
held_in silences log = map OfSilence silences ++ map OfEntry log

-- the versions of silences among versions of both states
abbrev pub silences_in : List Delivery → List Mesh
silences_in [] = []
silences_in (OfSilence v ∷ ds) = v ∷ silences_in ds
silences_in (OfEntry e ∷ ds) = silences_in ds

-- the versions of the log among versions of both states
abbrev pub entries_in : List Delivery → List LogMesh
entries_in [] = []
entries_in (OfSilence v ∷ ds) = entries_in ds
entries_in (OfEntry e ∷ ds) = e ∷ entries_in ds
