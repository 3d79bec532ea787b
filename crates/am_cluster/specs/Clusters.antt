-- Laws of every cluster, whatever steps it made.
use Rattle.std.specs.Prelude.{◌≡◌, All, length}
use Rattle.am_silence.specs.Mesh.{IsMesh}
use Rattle.am_nflog.specs.Mesh.{IsMesh as IsLogMesh}
use Rattle.am_runs.specs.Steps.{delivered_in}
use Rattle.am_cluster.specs.Reports.{AreRuns}
use Rattle.am_cluster.specs.Ties.{IsWorld}
use Rattle.am_cluster.specs.Twins.{AreTwins}
use Rattle.am_cluster.specs.Worlds.{World}

-- Each member stands as its past in both runs tells, and each frame in flight is one that a step sent; both are runs, which tell
-- of the same steps, each of which has a line; and what was delivered in them are values.
pub record IsCluster (cluster : World) : Type 0 where
  pub world : IsWorld cluster
  pub runs : AreRuns (length cluster.replicas) cluster.silences cluster.log
  pub silences : All IsMesh (delivered_in cluster.silences)
  pub log : All IsLogMesh (delivered_in cluster.log)
  pub twins : AreTwins cluster.silences cluster.log
  pub lines : length cluster.lines ≡ length cluster.silences
