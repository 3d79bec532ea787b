-- The bare sets of the members of a cluster.
use Rattle.std.specs.Prelude.{◌≡◌, ◌≤◌, ◌++◌, ◌∷◌, ℕ, List, Option, Some, All, length, map}
use Rattle.am_silence.specs.Mesh.{Mesh}
use Rattle.am_nflog.specs.Mesh.{Mesh as LogMesh}
use Rattle.am_runs.specs.Members.{set_of}
use Rattle.am_runs.specs.Steps.{RunStep, moment}
use Rattle.am_cluster.specs.BothRuns.{RunOf, log_run, silence_run}
use Rattle.am_cluster.specs.Reports.{IsCalmInBoth}
use Rattle.am_cluster.specs.Ties.{member_in}
use Rattle.am_cluster.specs.Worlds.{Replica, World}

-- all versions of a state that were delivered to the member at a place, live or not; a start brings back what was delivered
-- before the save
abbrev pub taken_in : {K X : Type 0} → RunOf K X → World → ℕ → List X
taken_in run world place = set_of (member_in run world place)

-- all silences that were delivered to the member at a place
abbrev pub silences_taken : World → ℕ → List Mesh
silences_taken = taken_in silence_run

-- all entries of the log that were delivered to the member at a place
abbrev pub entries_taken : World → ℕ → List LogMesh
entries_taken = taken_in log_run

-- the member at a place was calm with each step so far, and its last event or start came no later than now
pub record IsCalmBy (world : World) (place : ℕ) (replica : Replica) (now : ℕ) : Type 0 where
  pub calm : IsCalmInBoth (length world.replicas) place world.silences world.log
  pub past : replica.stand.last ≤ now

-- one of the runs goes on with a step of this moment, and perhaps more
pub record GoesOnIn {K X : Type 0} (run : RunOf K X) (earlier later : World) (now : ℕ) : Type 0 where
  pub step : RunStep X
  pub rest : List (RunStep X)
  pub parts : run.steps later ≡ run.steps earlier ++ step ∷ rest
  pub begins : moment step ≡ Some now

-- the later cluster is the earlier one after a step of this moment, and perhaps more
pub record GoesOnAt (earlier later : World) (now : ℕ) : Type 0 where
  pub members : length later.replicas ≡ length earlier.replicas
  pub silences : GoesOnIn silence_run earlier later now
  pub log : GoesOnIn log_run earlier later now

-- one of the runs goes on by steps that have this moment, or have none; or it stays as it is
pub record ExtendsRun {K X : Type 0} (run : RunOf K X) (earlier later : World) (now : Option ℕ) : Type 0 where
  pub more : List (RunStep X)
  pub parts : run.steps later ≡ run.steps earlier ++ more
  pub moments : All (λ step. moment step ≡ now) more

-- Both runs do, by the same number of steps, each in this line; and there are as many members.
pub record Extends (earlier later : World) (now : Option ℕ) (line : ℕ) : Type 0 where
  pub members : length later.replicas ≡ length earlier.replicas
  pub silences : ExtendsRun silence_run earlier later now
  pub log : ExtendsRun log_run earlier later now
  pub alike : length silences.more ≡ length log.more
  pub lines : later.lines ≡ earlier.lines ++ map (λ step. line) silences.more
