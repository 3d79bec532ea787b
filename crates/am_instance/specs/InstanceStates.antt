-- An instance, as contracts see it.
use Rattle.std.specs.Prelude.{ℕ, List, All, Option}
use Rattle.std.specs.Ordering.{nat_cmp}
use Rattle.std.specs.Cmp.Lexicographic.{slice_cmp}
use Rattle.am_wire.specs.Unknown.{StaysWhole}
use Rattle.am_silence.specs.Mesh.{Mesh, mesh_version, without_unknown}
use Rattle.am_nflog.specs.Mesh.{Mesh as LogMesh, mesh_version as entry_version, without_unknown as entry_without_unknown}
use Rattle.am_nflog.specs.Keys.{key_cmp}
use Rattle.am_nflog.specs.LogKeys.{LogKey}
use Rattle.am_merge.specs.Maps.{at, swept}
use Rattle.am_collect.specs.Kept.{Kept}
use Rattle.am_collect.specs.Events.{Events}
use Rattle.am_collect.specs.Keepers.{IsLeftBy}
use Rattle.am_instance.specs.Configs.{Settings}

-- its configuration, both maps in the order of their keys, and the moment of its last event
pub record InstanceState : Type 0 where
  pub config : Settings
  pub silences : List Mesh
  pub log : List LogMesh
  pub last : ℕ

-- nothing of the held versions is lost when they are read again: unknown fields are kept, or none has any
pub record HoldsWhole (stand : InstanceState) : Type 0 where
  pub silences : All (StaysWhole without_unknown stand.config.unknown) stand.silences
  pub log : All (StaysWhole entry_without_unknown stand.config.unknown) stand.log

-- the silence with an id
abbrev pub silence_at : List Mesh → List ℕ → Option Mesh
silence_at silences = at mesh_version (slice_cmp nat_cmp) silences

-- the entry at a key of the log
abbrev pub entry_at : List LogMesh → LogKey → Option LogMesh
entry_at log = at entry_version key_cmp log

-- the silences in view: the held ones that are live
abbrev pub silences_in_view : ℕ → List Mesh → List Mesh
silences_in_view now silences = swept mesh_version now silences

-- the entries of the log in view: the held ones that are live
abbrev pub log_in_view : ℕ → List LogMesh → List LogMesh
log_in_view now log = swept entry_version now log

-- the silences with the moment of the last event
abbrev pub kept_silences : InstanceState → Kept Mesh
kept_silences stand = record { held = stand.silences; last = stand.last }

-- the log with the moment of the last event
abbrev pub kept_log : InstanceState → Kept LogMesh
kept_log stand = record { held = stand.log; last = stand.last }

-- the events turn one map of silences into the other
abbrev pub AreSilencesLeftBy : Kept Mesh → Events Mesh → Kept Mesh → Type 0
AreSilencesLeftBy = IsLeftBy mesh_version (slice_cmp nat_cmp)

-- the events turn one log into the other
abbrev pub IsLogLeftBy : Kept LogMesh → Events LogMesh → Kept LogMesh → Type 0
IsLogLeftBy = IsLeftBy entry_version key_cmp
