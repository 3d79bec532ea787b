-- The cluster line: cluster RETENTION TIMEOUT NAME ..
use Rattle.std.specs.Prelude.{ℕ, Bool, List, [], length, drop, Option, Some, None, Result, Ok, Err, nat_lt, nat_le, not}
use Rattle.std.specs.Prelude.{◌&&◌, codes, if◌then◌else◌}
use Rattle.std.specs.List.{list_all}
use Rattle.std.specs.Str.{bytes_eq}
use Rattle.am_schedule.specs.declared.error.FaultKind.{FaultKind}
use Rattle.am_schedule.specs.declared.error.FaultKind.TheVariants.{Cluster}
use Rattle.am_schedule.specs.declared.cluster.ClusterLine.{ClusterLine}
use Rattle.am_schedule.specs.Readings.{◌>>=◌, or_fault}
use Rattle.am_schedule.specs.Lists.{are_new}
use Rattle.am_schedule.specs.Words.{has_word, word_at}
use Rattle.am_schedule.specs.Slots.{interval, value_at}

-- a member's name has 1 to 255 bytes, and is none of the words that may stand in a name's place
unfoldable pub is_name : List ℕ → Bool
is_name word = (nat_lt 0 (length word) && nat_le (length word) 255)
    && (not (bytes_eq word (codes "deliver")) && not (bytes_eq word (codes "settle")))

-- the words as names, if they are distinct names
unfoldable pub names_in : List (List ℕ) → Option (List (List ℕ))
names_in words = if list_all is_name words && are_new [] words then Some words else None

-- a result in which any fault is a wrong cluster line
abbrev pub as_cluster : {A : Type 0} → Result A FaultKind → Result A FaultKind
as_cluster (Ok x) = Ok x
as_cluster (Err kind) = Err Cluster

-- the numbers and the 1 to 16 names of a cluster line
unfoldable pub cluster_parts : List (List ℕ) → Result ClusterLine FaultKind
cluster_parts words = do
  retention ← as_cluster (value_at [] interval (word_at 1 words))
  peer_timeout ← as_cluster (value_at [] interval (word_at 2 words))
  names ← or_fault Cluster (names_in (drop 3 words))
  Ok (record { names = names; retention = retention; peer_timeout = peer_timeout })

-- true if a line has the verb of a cluster line, and as many words as that needs
abbrev pub has_cluster_form : List (List ℕ) → Bool
has_cluster_form words = has_word 0 (codes "cluster") words && (nat_le 4 (length words) && nat_le (length words) 19)

-- the cluster of a line
unfoldable pub cluster_in : List (List ℕ) → Result ClusterLine FaultKind
cluster_in words = if has_cluster_form words then cluster_parts words else Err Cluster
