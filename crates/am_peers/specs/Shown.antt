-- The part of a row's versions that API v2 shows.
use Rattle.std.specs.Prelude.{ℕ, List, map}
use Rattle.am_wire.specs.declared.unknown.Unknown.TheVariants.{Drop}
use Rattle.am_wire.specs.Inputs.{AreMessages}
use Rattle.am_silence.specs.Mesh.{Mesh, mesh_version}
use Rattle.am_silence.specs.MeshTable.{reads_mesh_silence}
use Rattle.am_silence_json.specs.Shown.{cut_to_shown}
use Rattle.am_merge.specs.Views.{HoldsBest}

-- the row's versions are folded without unknown fields, each that counts is cut to what is shown of it, and the result is held
pub record IsShownOfRow (input : List ℕ) (shown : List Mesh) : Type 0 where
  pub versions : List Mesh
  pub folded : List Mesh
  pub read : AreMessages (reads_mesh_silence Drop) input versions
  pub best : HoldsBest mesh_version versions folded
  pub cut : HoldsBest mesh_version (map cut_to_shown folded) shown
