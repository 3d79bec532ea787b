use Rattle.std.proofs.Common.{max, sym, ap, ◌∙◌, subst, arith}
use Rattle.am_cluster.specs.Ties.{IsWorld}
use Rattle.am_cluster.proofs.Admitted.{lasts_told, marked_world, world_marked}
use Rattle.am_cluster.proofs.Lived.{roomy_world}
use Rattle.am_cluster.proofs.cluster.Cluster.refuse_late.Goals as goal

pub mark_late-requires-clause-room : goal.mark_late-requires-clause-room
mark_late-requires-clause-room c = let len = c.len.ensures in let all = c.deref.ensures.len in let room = c.in_ok-make_room.ensures.room in omega arith

pub mark_late-requires-clause-told : goal.mark_late-requires-clause-told
mark_late-requires-clause-told c = lasts_told _ _ c.make_room.new.self c.self.invariant.world c.deref.ensures.value (c.make_room.ensures.members ∙ c.self.invariant.members) c.make_room.ensures.silences

pub invariant_of-self-2 : goal.invariant_of-self-2
invariant_of-self-2 c =
    let marked = marked_world _ _ c.self.inside.journal c.make_room.new.self c.mark_late.new.journal c.self.inside.flights.items c.args.now c.args.line
    c.deref.ensures.value c.make_room.ensures.silences c.make_room.ensures.log c.make_room.ensures.lines (c.in_ok-make_room.ensures.room ∙ ap (max c.self.inside.journal.room) (c.len.ensures ∙ c.self.inside.members.ok.0)) c.mark_late.ensures in record {
      members = c.mark_late.ensures.members ∙ (c.make_room.ensures.members ∙ c.self.invariant.members);
      world = subst IsWorld (sym marked) (world_marked _ _ c.args.now c.args.line (roomy_world _ _ c.self.invariant.world));
    }
