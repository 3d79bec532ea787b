use Rattle.std.proofs.Common.{◌∙◌}
use Rattle.am_silence.specs.MatcherTexts.{writes_matchers}
use Rattle.am_silence.specs.Offsets.{StandsBetween}
use Rattle.am_silence.specs.Spelled.{version_in}
use Rattle.am_silence.proofs.Ranges.{range_is_text, range_spells}
use Rattle.am_silence.proofs.mesh.MeshSilence.matchers.Goals as goal

pub over-requires : goal.over-requires
over-requires c =
    let version = version_in c.self.inside.canonical.items in
    let places = c.self.inside.places in
    let stands : StandsBetween places.matchers places.matchers_end (writes_matchers version.silence.matchers) c.deref.result.now =
    rw c.deref.ensures.value c.self.invariant.places.matchers in
    range_is_text version.silence.matchers stands c.self.invariant.value.silence.matchers c.deref.type_inv.0

pub returns : goal.returns
returns c =
    let version = version_in c.self.inside.canonical.items in
    let places = c.self.inside.places in
    let stands : StandsBetween places.matchers places.matchers_end (writes_matchers version.silence.matchers) c.deref.result.now =
    rw c.deref.ensures.value c.self.invariant.places.matchers in
    rw (← c.self.view_is) (c.over.ensures ∙ range_spells version.silence.matchers stands c.self.invariant.value.silence.matchers c.deref.type_inv.0)
