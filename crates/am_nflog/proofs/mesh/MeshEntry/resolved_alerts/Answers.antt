use Rattle.std.proofs.Common.{◌≡◌}
use Rattle.std.specs.List.{flat_map}
use Rattle.am_wire.specs.Varint.{shortest}
use Rattle.am_wire.specs.Offsets.{StandsAt}
use Rattle.am_nflog.specs.Spelled.{spelled}
use Rattle.am_nflog.proofs.mesh.MeshEntry.resolved_alerts.Goals as goal
use Rattle.am_nflog.proofs.mesh.MeshEntry.resolved_alerts.Goals.{After-part_of-packed}

packed_is : (c : After-part_of-packed) → c.part_of-packed.result.now ≡ flat_map shortest (spelled c.self.inside.canonical.items).entry.resolved_alerts
packed_is c =
    let part = flat_map shortest (spelled c.self.inside.canonical.items).entry.resolved_alerts in
    let whole : StandsAt part c.self.inside.places.resolved_alerts c.as_slice.result.now = rw c.as_slice.ensures.value c.self.invariant.places.resolved_alerts in
    c.part_of-packed.ensures part whole

pub unpacking-requires : goal.unpacking-requires
unpacking-requires c =
    ((spelled c.self.inside.canonical.items).entry.resolved_alerts, packed_is (goal.at.unpacking-requires c).After-part_of-packed, c.self.invariant.value.entry.resolved_alerts)

pub returns : goal.returns
returns c =
    rw (← c.self.view_is) (c.unpacking.ensures (spelled c.self.inside.canonical.items).entry.resolved_alerts (packed_is (goal.at.returns c).After-part_of-packed) c.self.invariant.value.entry.resolved_alerts)
