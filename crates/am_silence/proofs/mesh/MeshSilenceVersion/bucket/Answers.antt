use Rattle.am_wire.specs.Offsets.{StandsAt}
use Rattle.am_silence.specs.Mesh.{bucket_of}
use Rattle.am_silence.specs.Spelled.{version_in}
use Rattle.am_silence.proofs.mesh.MeshSilenceVersion.bucket.Goals as goal

pub returns : goal.returns
returns c =
    let part = bucket_of (version_in c.self.inside.canonical.items).silence.matchers in
    let whole : StandsAt part c.self.inside.places.bucket c.as_slice.result.now = rw c.as_slice.ensures.value c.self.invariant.places.bucket in
    rw (← c.self.view_is) (c.part_of.ensures part whole)
