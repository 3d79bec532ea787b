use Rattle.std.proofs.Common.{length}
use Rattle.std.specs.Ordering.{nat_cmp}
use Rattle.std.specs.Cmp.Lexicographic.{slice_cmp}
use Rattle.am_silence.specs.Mesh.{mesh_version}
use Rattle.am_nflog.specs.Mesh.{mesh_version as entry_version}
use Rattle.am_nflog.specs.Keys.{key_cmp}
use Rattle.am_cluster.proofs.DurableHas.{came_timely, timely_by_came}
use Rattle.am_cluster.proofs.laws.durable.durable_runs_are_timely_by_what_came.Goals as goal

pub returns : goal.returns
returns c = λ spread flight durable.
    let world = c.args.cluster.now in
    let members = length world.replicas in
    let runs = c.consistency.ensures.runs in (
      λ timely. (
        timely_by_came mesh_version (slice_cmp nat_cmp) spread flight members world.silences timely.0,
        timely_by_came entry_version key_cmp spread flight members world.log timely.1,
      ),
      λ timely. (
        came_timely mesh_version (slice_cmp nat_cmp) spread flight members world.silences runs.0 timely.0 (λ place within. (durable place within).0),
        came_timely entry_version key_cmp spread flight members world.log runs.1 timely.1 (λ place within. (durable place within).1),
      ),
    )
