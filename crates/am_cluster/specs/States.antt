-- Versions by their state, as contracts see them.
use Rattle.std.specs.Prelude.{ℕ, List}
use Rattle.am_silence.specs.Mesh.{Mesh}
use Rattle.am_nflog.specs.Mesh.{Mesh as LogMesh}

-- the versions of each state, in their order, and the number of further versions for which there is room, whichever their state
pub record Sorted : Type 0 where
  pub silences : List Mesh
  pub log : List LogMesh
  pub room : ℕ
