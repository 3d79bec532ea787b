use Rattle.std.specs.Ordering.{nat_cmp}
use Rattle.std.specs.Cmp.Lexicographic.{slice_cmp}
use Rattle.am_silence.specs.Mesh.{Mesh, mesh_version}
use Rattle.am_nflog.specs.Mesh.{Mesh as LogMesh, mesh_version as entry_version}
use Rattle.am_nflog.specs.Keys.{key_cmp}
use Rattle.am_cluster.proofs.Twinned.{mark_possible, mark_twin}
use Rattle.am_cluster.proofs.journal.laws.marks_are_told_of_both.Goals as goal

pub returns : goal.returns
returns c = record {
  twins = mark_twin Mesh LogMesh;
  possible = mark_possible mesh_version (slice_cmp nat_cmp) entry_version key_cmp;
}
