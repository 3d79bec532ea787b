-- The report on a member: it was calm in both runs, or the line of the first step at which it wasn't.
use Rattle.std.specs.Prelude.{◌≡◌, ◌⊎◌, ℕ, List, Some, take, slice_get}
use Rattle.std.specs.Ordering.{nat_cmp}
use Rattle.std.specs.Cmp.Lexicographic.{slice_cmp}
use Rattle.am_silence.specs.Mesh.{Mesh, mesh_version}
use Rattle.am_nflog.specs.Mesh.{Mesh as LogMesh, mesh_version as entry_version}
use Rattle.am_nflog.specs.Keys.{key_cmp}
use Rattle.am_runs.specs.Steps.{RunStep}
use Rattle.am_runs.specs.Runs.{IsPossible, IsRun, IsCalmAt, IsFirstFault}
use Rattle.am_runs.specs.Timely.{IsTimely}

-- the step can have happened to the silences after the steps before it
abbrev pub IsPossibleForSilences : ℕ → List (RunStep Mesh) → RunStep Mesh → Type 0
IsPossibleForSilences = IsPossible mesh_version (slice_cmp nat_cmp)

-- the step can have happened to the log after the steps before it
abbrev pub IsPossibleForLog : ℕ → List (RunStep LogMesh) → RunStep LogMesh → Type 0
IsPossibleForLog = IsPossible entry_version key_cmp

-- both are runs of a cluster with this number of members: each of their steps can have happened after those before it
abbrev pub AreRuns : ℕ → List (RunStep Mesh) → List (RunStep LogMesh) → Type 0
AreRuns members silences log = IsRun mesh_version (slice_cmp nat_cmp) members silences × IsRun entry_version key_cmp members log

-- the member was calm in both runs, at each step so far
abbrev pub IsCalmInBoth : ℕ → ℕ → List (RunStep Mesh) → List (RunStep LogMesh) → Type 0
IsCalmInBoth members place silences log = IsCalmAt mesh_version members place silences × IsCalmAt entry_version members place log

-- the step of this number, counted from 0, is the first at which the member wasn't calm: it was calm in both runs before it, and in
-- one of them no longer with it
pub record IsFirstUncalm (members place : ℕ) (silences : List (RunStep Mesh)) (log : List (RunStep LogMesh)) (number : ℕ) : Type 0 where
  pub calm_before : IsCalmInBoth members place (take number silences) (take number log)
  pub fails : IsFirstFault mesh_version members place silences number ⊎ IsFirstFault entry_version members place log number

-- this is the line of that step
abbrev pub IsLineOfFault : ℕ → ℕ → List (RunStep Mesh) → List (RunStep LogMesh) → List ℕ → ℕ → Type 0
IsLineOfFault members place silences log lines line =
    (number : ℕ) × IsFirstUncalm members place silences log number × (slice_get lines number ≡ Some line)

-- both runs keep the spread and the flight time
abbrev pub AreTimely : ℕ → ℕ → ℕ → List (RunStep Mesh) → List (RunStep LogMesh) → Type 0
AreTimely spread flight members silences log =
    IsTimely mesh_version spread flight members silences × IsTimely entry_version spread flight members log
