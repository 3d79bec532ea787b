use Rattle.am_wire.specs.declared.unknown.Unknown.TheVariants.{Drop}
use Rattle.std.proofs.Common.{◌≡◌, sym, ◌∙◌, subst, length, Some, arith, slice_get}
use Rattle.am_cluster.specs.BothStates.{log_state, silence_state}
use Rattle.am_cluster.specs.Recorded.{HasSource}
use Rattle.am_cluster.specs.Ties.{IsWorld}
use Rattle.am_cluster.proofs.Places.{set_length}
use Rattle.am_cluster.proofs.Lived.{found_at, inside}
use Rattle.am_cluster.proofs.Telling.{can_act, can_have, event_hangs, event_told, tell, world_is}
use Rattle.am_cluster.proofs.cluster.Cluster.apply_event.Goals as goal

pub step_and_record-requires : goal.step_and_record-requires
step_and_record-requires c =
    let less = inside _ _ c.args.place c.self.view_is c.requires.within in
    let first = found_at c.self.inside.members.items c.args.place c.index_mut.result.now less c.index_mut.ensures.value in
    let found = subst (λ r. slice_get c.self.inside.members.items c.args.place ≡ Some r) (sym c.behind-self.view_is) first in
    let ready = can_have _ c.args.self.now c.args.place _ c.args.event c.args.now c.self.view_is found c.requires.ready in
    let tells = tell _ (record { replicas = c.self.inside.members.items; silences = c.self.inside.journal.silences; log = c.self.inside.journal.log; lines = c.self.inside.journal.lines; flights = c.self.inside.flights.items; room = c.self.inside.journal.room }) (c.make_room.ensures.members ∙ c.self.invariant.members) c.make_room.ensures.silences c.make_room.ensures.log c.make_room.ensures.lines c.in_ok-make_room.ensures.room in
    record {
      ready = can_act _ _ tells c.args.place c.args.now c.args.line _ c.args.event c.args.source c.self.invariant.world found ready.runs
          (subst (λ v. HasSource silence_state Drop (length v.replicas) v.silences c.args.now c.args.event c.args.source) (sym c.self.view_is) c.requires.silences)
          (subst (λ v. HasSource log_state Drop (length v.replicas) v.log c.args.now c.args.event c.args.source) (sym c.self.view_is) c.requires.log)
          ready.accepted;
      coming = c.in_ok-coming.ensures.coming;
      values = c.in_ok-coming.ensures.values;
      room = c.in_ok-coming.ensures.room;
      enough = (let room = c.in_ok-make_room.ensures.room in omega arith);
    }

pub invariant_of-self-2 : goal.invariant_of-self-2
invariant_of-self-2 c =
    let less = inside _ _ c.args.place c.self.view_is c.requires.within in
    let first = found_at c.self.inside.members.items c.args.place c.index_mut.result.now less c.index_mut.ensures.value in
    let found = subst (λ r. slice_get c.self.inside.members.items c.args.place ≡ Some r) (sym c.behind-self.view_is) first in
    let ready = can_have _ c.args.self.now c.args.place _ c.args.event c.args.now c.self.view_is found c.requires.ready in
    let tells = tell _ (record { replicas = c.self.inside.members.items; silences = c.self.inside.journal.silences; log = c.self.inside.journal.log; lines = c.self.inside.journal.lines; flights = c.self.inside.flights.items; room = c.self.inside.journal.room }) (c.make_room.ensures.members ∙ c.self.invariant.members) c.make_room.ensures.silences c.make_room.ensures.log c.make_room.ensures.lines c.in_ok-make_room.ensures.room in
    record {
      members = c.step_and_record.ensures.recorded.members ∙ (c.make_room.ensures.members ∙ (c.self.invariant.members ∙ sym (set_length c.self.inside.members.items c.args.place _)));
      world = subst IsWorld (sym (world_is _ _ tells c.args.place c.args.now c.args.line _ c.args.event c.args.source c.self.invariant.world found c.step_and_record.result c.step_and_record.new.journal c.step_and_record.new.flights.items c.step_and_record.new.instance c.step_and_record.ensures))
          (event_hangs _ _ tells c.args.place c.args.now c.args.line _ c.args.event c.args.source c.self.invariant.world found c.step_and_record.result c.step_and_record.new.journal c.step_and_record.new.flights.items c.step_and_record.new.instance c.step_and_record.ensures c.is_told_of_both.ensures.twins);
    }

pub returns : goal.returns
returns c =
    let less = inside _ _ c.args.place c.self.view_is c.requires.within in
    let first = found_at c.self.inside.members.items c.args.place c.index_mut.result.now less c.index_mut.ensures.value in
    let found = subst (λ r. slice_get c.self.inside.members.items c.args.place ≡ Some r) (sym c.behind-self.view_is) first in
    let ready = can_have _ c.args.self.now c.args.place _ c.args.event c.args.now c.self.view_is found c.requires.ready in
    let tells = tell _ (record { replicas = c.self.inside.members.items; silences = c.self.inside.journal.silences; log = c.self.inside.journal.log; lines = c.self.inside.journal.lines; flights = c.self.inside.flights.items; room = c.self.inside.journal.room }) (c.make_room.ensures.members ∙ c.self.invariant.members) c.make_room.ensures.silences c.make_room.ensures.log c.make_room.ensures.lines c.in_ok-make_room.ensures.room in
    event_told _ _ tells c.args.place c.args.now c.args.line _ c.args.event c.args.source c.self.invariant.world found c.step_and_record.result c.step_and_record.new.journal c.step_and_record.new.flights.items c.step_and_record.new.instance c.step_and_record.ensures
    _ c.self.view_is ready.runs _ (world_is _ _ tells c.args.place c.args.now c.args.line _ c.args.event c.args.source c.self.invariant.world found c.step_and_record.result c.step_and_record.new.journal c.step_and_record.new.flights.items c.step_and_record.new.instance c.step_and_record.ensures)
