use Rattle.std.proofs.Common.{refl, sym, ◌∙◌, subst}
use Rattle.am_cluster.specs.Marks.{step_of_mark}
use Rattle.am_cluster.specs.Ties.{IsWorld}
use Rattle.am_cluster.proofs.Goes.{goes_on_idle}
use Rattle.am_cluster.proofs.Lived.{world_written}
use Rattle.am_cluster.proofs.Refusing.{idle_step}
use Rattle.am_cluster.proofs.cluster.Cluster.write_mark.Goals as goal

pub invariant_of-self-2 : goal.invariant_of-self-2
invariant_of-self-2 c =
    let same = world_written c.self.inside.members.items _ c.self.inside.flights.items c.self.inside.journal c.make_room.new.self c.mark.new.self (step_of_mark c.args.mark) (step_of_mark c.args.mark) c.args.line refl
    c.make_room.ensures.silences c.make_room.ensures.log c.make_room.ensures.lines c.in_ok-make_room.ensures.room c.mark.ensures.silences c.mark.ensures.log c.mark.ensures.lines c.mark.ensures.room in record {
      members = c.mark.ensures.members ∙ (c.make_room.ensures.members ∙ c.self.invariant.members);
      world = subst IsWorld (sym same) (goes_on_idle _ (step_of_mark c.args.mark) (step_of_mark c.args.mark) c.args.line (idle_step c.args.mark c.requires.idle) (idle_step c.args.mark c.requires.idle) c.self.invariant.world);
    }
