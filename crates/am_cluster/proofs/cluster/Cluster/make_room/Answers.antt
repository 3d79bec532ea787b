use Rattle.std.proofs.Common.{refl, sym, ◌∙◌, subst}
use Rattle.am_cluster.specs.Ties.{IsWorld}
use Rattle.am_cluster.proofs.Lived.{roomy_world, same_world}
use Rattle.am_cluster.proofs.cluster.Cluster.make_room.Goals as goal

pub invariant_of-self : goal.invariant_of-self
invariant_of-self c =
    let same = same_world c.self.inside.members.items c.self.inside.members.items _ _ _ _ _ _ c.self.inside.flights.items _ c.make_room.new.self.room refl c.make_room.ensures.silences c.make_room.ensures.log c.make_room.ensures.lines refl in record {
      members = c.make_room.ensures.members ∙ c.self.invariant.members;
      world = subst IsWorld (sym same) (roomy_world _ c.make_room.new.self.room c.self.invariant.world);
    }
