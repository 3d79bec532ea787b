use Rattle.am_wire.specs.Offsets.{StandsAt}
use Rattle.am_nflog.specs.Spelled.{spelled}
use Rattle.am_nflog.proofs.mesh.MeshEntry.group_hash.Goals as goal

pub returns : goal.returns
returns c =
    let part = (spelled c.self.inside.canonical.items).entry.group_hash in
    let whole : StandsAt part c.self.inside.places.group_hash c.as_slice.result.now = rw c.as_slice.ensures.value c.self.invariant.places.group_hash in
    rw (← c.self.view_is) (c.part_of.ensures part whole)
