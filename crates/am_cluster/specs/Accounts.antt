-- The journal of what happened in a cluster so far, as contracts see it.
use Rattle.std.specs.Prelude.{ℕ, List}
use Rattle.am_silence.specs.Mesh.{Mesh}
use Rattle.am_nflog.specs.Mesh.{Mesh as LogMesh}
use Rattle.am_runs.specs.Steps.{RunStep}

-- the number of members, what each step was to the silences and to the log, the line that it was given, and the number of further
-- steps for which there is room
pub record Account : Type 0 where
  pub members : ℕ
  pub silences : List (RunStep Mesh)
  pub log : List (RunStep LogMesh)
  pub lines : List ℕ
  pub room : ℕ
