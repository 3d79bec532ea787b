-- The two states of an instance, its silences and its log, which contracts treat alike.
use Rattle.std.specs.Prelude.{ℕ, List}
use Rattle.std.specs.declared.cmp.Ordering.{Ordering}
use Rattle.std.specs.Ordering.{nat_cmp}
use Rattle.std.specs.Cmp.Lexicographic.{slice_cmp}
use Rattle.am_version_order.specs.Versions.{Version}
use Rattle.am_silence.specs.Mesh.{Mesh, mesh_version}
use Rattle.am_nflog.specs.Mesh.{Mesh as LogMesh, mesh_version as entry_version}
use Rattle.am_nflog.specs.Keys.{key_cmp}
use Rattle.am_nflog.specs.LogKeys.{LogKey}
use Rattle.am_collect.specs.Events.{MapEvent}
use Rattle.am_collect.specs.Kept.{Kept}
use Rattle.am_instance.specs.Deliveries.{Delivery, to_silences, to_log}
use Rattle.am_instance.specs.InstanceStates.{InstanceState, kept_log, kept_silences}
use Rattle.am_cluster.specs.Contents.{entries_in, silences_in}

-- A state with the types K of its keys and X of its versions: what the merge sees of a version, how keys compare, what a delivery
-- is to its map, which of the versions of both states are its own, and what an instance keeps of it.
pub record StateOf (K X : Type 0) : Type 0 where
  pub seen : X → Version K
  pub cmp : K → K → Ordering
  pub event_of : Delivery → MapEvent X
  pub versions_in : List Delivery → List X
  pub kept : InstanceState → Kept X

-- the state of the silences
abbrev pub silence_state : StateOf (List ℕ) Mesh
silence_state = record {
  seen = mesh_version;
  cmp = slice_cmp nat_cmp;
  event_of = to_silences;
  versions_in = silences_in;
  kept = kept_silences;
}

-- the state of the log
abbrev pub log_state : StateOf LogKey LogMesh
log_state = record {
  seen = entry_version;
  cmp = key_cmp;
  event_of = to_log;
  versions_in = entries_in;
  kept = kept_log;
}
