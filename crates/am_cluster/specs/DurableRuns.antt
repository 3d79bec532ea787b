-- Laws of durable members of a cluster.
use Rattle.std.specs.Prelude.{◌≡◌, ◌++◌, ℕ, List, Contains, length}
use Rattle.am_silence.specs.Mesh.{Mesh, mesh_version}
use Rattle.am_nflog.specs.Mesh.{Mesh as LogMesh, mesh_version as entry_version}
use Rattle.am_merge.specs.Views.{IsViewAt}
use Rattle.am_runs.specs.Steps.{RunStep}
use Rattle.am_cluster.specs.BothRuns.{RunOf}
use Rattle.am_cluster.specs.Durable.{CameLive, HasComeLive, IsDurable, IsTimelyByWhatCame, came}
use Rattle.am_cluster.specs.Lives.{OfMember}
use Rattle.am_cluster.specs.Replicas.{IsCalmBy, taken_in}
use Rattle.am_cluster.specs.Reports.{AreTimely}
use Rattle.am_cluster.specs.Shown.{shown_by}
use Rattle.am_cluster.specs.Worlds.{World}

-- a member is durable in both runs
abbrev pub IsDurableInBoth : ℕ → List (RunStep Mesh) → List (RunStep LogMesh) → Type 0
IsDurableInBoth place silences log = IsDurable mesh_version place silences × IsDurable entry_version place log

-- both runs keep the spread and the flight time as if no start lost anything
abbrev pub AreTimelyByWhatCame : ℕ → ℕ → ℕ → List (RunStep Mesh) → List (RunStep LogMesh) → Type 0
AreTimelyByWhatCame spread flight members silences log =
    IsTimelyByWhatCame mesh_version spread flight members silences × IsTimelyByWhatCame entry_version spread flight members log

module _ {K X : Type 0} (run : RunOf K X) where
  -- all versions that ever came to the member at a place
  abbrev pub came_in : World → ℕ → List X
  came_in world place = came place (run.steps world)

  -- a version that came live to a durable member by some moment is in its bare set at every later one
  abbrev pub LoseNothing : World → World → Type 0
  LoseNothing earlier later = (place : ℕ) (rest : List (RunStep X)) → run.steps later ≡ run.steps earlier ++ rest →
      IsDurable run.state.seen place (run.steps later) →
      (v : X) → CameLive run.state.seen place (run.steps earlier) v → Contains (taken_in run later place) v

  -- a durable member that was calm shows what all that ever came to it shows of a key, if none of that came too late
  abbrev pub ShowWhatCame : World → Type 0
  ShowWhatCame world = (place now : ℕ) (key : K) → IsDurable run.state.seen place (run.steps world) →
      ((v : X) → Contains (came_in world place) v → (run.state.seen v).key ≡ key →
      HasComeLive run.state.seen place (run.steps world) v) →
      OfMember world place (λ replica. IsCalmBy world place replica now →
      IsViewAt run.state.seen (came_in world place) now key (shown_by run replica now key))

  -- in a timely run nothing comes too late
  abbrev pub ComeInTime : World → Type 0
  ComeInTime world = (spread flight place : ℕ) → AreTimely spread flight (length world.replicas) world.silences world.log →
      (v : X) → Contains (came_in world place) v → HasComeLive run.state.seen place (run.steps world) v
