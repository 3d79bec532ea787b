use Rattle.std.proofs.Common.{◌≡◌, map}
use Rattle.std.specs.List.{range_with_len}
use Rattle.am_cluster.specs.Beginnings.{newborn}
use Rattle.am_cluster.proofs.cluster.newborn_members.Given as goal

abbrev pub invariant-loop-place : goal.invariant-loop-place
invariant-loop-place l = l.members.items ≡ map (newborn l.config) (range_with_len 0 l.place)
