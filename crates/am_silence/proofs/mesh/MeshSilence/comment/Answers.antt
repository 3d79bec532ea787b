use Rattle.am_wire.specs.Offsets.{StandsAt}
use Rattle.am_silence.specs.Spelled.{version_in}
use Rattle.am_silence.proofs.mesh.MeshSilence.comment.Goals as goal

pub returns : goal.returns
returns c =
    let part = (version_in c.self.inside.canonical.items).silence.comment in
    let stands : StandsAt part c.self.inside.places.comment c.deref.result.now = rw c.deref.ensures.value c.self.invariant.places.comment in
    rw (← c.self.view_is) (c.text_of.ensures part stands)
