-- The knowledge of a schedule's reader after some lines.
use Rattle.std.specs.Prelude.{◌≡◌, ℕ, List, [], ◌∷◌, ◌++◌, Option, Ok}
use Rattle.am_schedule.specs.declared.step.Line.{Line}
use Rattle.am_schedule.specs.declared.reader.Reader.{Reader}
use Rattle.am_schedule.specs.Readings.{or_else}
use Rattle.am_schedule.specs.Tables.{value_in}
use Rattle.am_schedule.specs.Clusters.{cluster_in}
use Rattle.am_schedule.specs.Schedules.{value_of, labelled, cluster_of, version_of, numbered}

-- the reader knows the cluster and the labels of the lines before
pub record Stands (before : List (List ℕ)) (reader : Reader) : Type 0 where
  pub cluster : reader.cluster ≡ cluster_of before
  pub versions : value_in reader.versions ≡ version_of before

-- the reader took the words of a line, with what the line says
pub record Took (number : ℕ) (words : List (List ℕ)) (said : Option Line) (old new : Reader) : Type 0 where
  pub cluster : new.cluster ≡ or_else old.cluster (value_of (cluster_in words))
  pub versions : (label : List ℕ) → value_in new.versions label ≡ or_else (value_in old.versions label) (labelled label words)
  pub lines : new.lines.items ≡ old.lines.items ++ numbered number (Ok said ∷ [])
