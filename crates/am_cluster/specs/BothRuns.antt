-- The two runs of a cluster, that of the silences and that of the log, which contracts treat alike.
use Rattle.std.specs.Prelude.{ℕ, List}
use Rattle.am_silence.specs.Mesh.{Mesh}
use Rattle.am_nflog.specs.Mesh.{Mesh as LogMesh}
use Rattle.am_nflog.specs.LogKeys.{LogKey}
use Rattle.am_runs.specs.Steps.{RunStep}
use Rattle.am_cluster.specs.BothStates.{StateOf, log_state, silence_state}
use Rattle.am_cluster.specs.Worlds.{Replica, World}

-- A run with the types K of its keys and X of its versions: its state, what every step so far was to that, and what is saved of it
-- beside a member.
pub record RunOf (K X : Type 0) : Type 0 where
  pub state : StateOf K X
  pub steps : World → List (RunStep X)
  pub saved : Replica → List X

-- the run of the silences
abbrev pub silence_run : RunOf (List ℕ) Mesh
silence_run = record { state = silence_state; steps = λ world. world.silences; saved = λ replica. replica.saved_silences }

-- the run of the log
abbrev pub log_run : RunOf LogKey LogMesh
log_run = record { state = log_state; steps = λ world. world.log; saved = λ replica. replica.saved_log }
