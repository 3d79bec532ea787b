use Rattle.std.proofs.Common.{◌≡◌, ◌<◌, ◌≤◌, false, Some, refl, sym, ap, ◌∙◌, subst, set}
use Rattle.am_runs.specs.Steps.RunStep.{Started}
use Rattle.am_cluster.specs.Worlds.{replica_at, with_replica, written}
use Rattle.am_cluster.specs.Lives.{started}
use Rattle.am_cluster.specs.Ties.{IsWorld}
use Rattle.am_cluster.proofs.Places.{set_length}
use Rattle.am_cluster.proofs.Lived.{changed, found_at, inside, last_told, read_again, runs_told, started_with, world_started, world_written}
use Rattle.am_cluster.proofs.cluster.Cluster.start_at.Goals as goal

pub mark-requires-clause-possible : goal.mark-requires-clause-possible
mark-requires-clause-possible c =
    let less = inside _ _ c.args.place c.self.view_is c.requires.within in
    let found = found_at c.self.inside.members.items c.args.place c.index.result.now less c.index.ensures in
    let ready = c.requires.ready c.index.result.now (subst (λ u. replica_at u c.args.place ≡ Some c.index.result.now) c.self.view_is found) in
    let members = c.make_room.ensures.members ∙ c.self.invariant.members in record {
      member = subst (λ n. c.args.place < n) (sym members) less;
      stopped = runs_told _ c.args.place c.index.result.now _ _ c.self.invariant.world found members c.make_room.ensures.silences false ready.stopped;
      forward = subst (λ n. n ≤ c.args.now) (last_told _ c.args.place c.index.result.now _ _ c.self.invariant.world found members c.make_room.ensures.silences) ready.forward;
    }

pub invariant_of-self-2 : goal.invariant_of-self-2
invariant_of-self-2 c =
    let less = inside _ _ c.args.place c.self.view_is c.requires.within in
    let found = found_at c.self.inside.members.items c.args.place c.index.result.now less c.index.ensures in
    let again = read_again c.self.inside.members.items c.args.place c.index.result.now c.index_mut.result.now less c.index.ensures c.index_mut.ensures.value in
    let same = world_written _ _ c.self.inside.flights.items c.self.inside.journal c.make_room.new.self c.mark.new.self (Started c.args.place c.args.now) (Started c.args.place c.args.now) c.args.line
    (ap (λ x. set c.self.inside.members.items c.args.place x) (started_with c.index_mut.result.now c.index.result.now c.begin.new.self c.in_ok-instance.instance c.args.now again c.in_ok-instance.ensures c.begin.ensures))
    c.make_room.ensures.silences c.make_room.ensures.log c.make_room.ensures.lines c.in_ok-make_room.ensures.room c.mark.ensures.silences c.mark.ensures.log c.mark.ensures.lines c.mark.ensures.room in record {
      members = c.mark.ensures.members ∙ (c.make_room.ensures.members ∙ (c.self.invariant.members ∙ sym (set_length c.self.inside.members.items c.args.place c.begin.new.self)));
      world = subst IsWorld (sym same) (world_started _ c.args.place c.index.result.now c.args.line c.self.invariant.world found c.args.now);
    }

pub returns : goal.returns
returns c =
    let less = inside _ _ c.args.place c.self.view_is c.requires.within in
    let found = found_at c.self.inside.members.items c.args.place c.index.result.now less c.index.ensures in
    let again = read_again c.self.inside.members.items c.args.place c.index.result.now c.index_mut.result.now less c.index.ensures c.index_mut.ensures.value in
    let same = world_written _ _ c.self.inside.flights.items c.self.inside.journal c.make_room.new.self c.mark.new.self (Started c.args.place c.args.now) (Started c.args.place c.args.now) c.args.line
    (ap (λ x. set c.self.inside.members.items c.args.place x) (started_with c.index_mut.result.now c.index.result.now c.begin.new.self c.in_ok-instance.instance c.args.now again c.in_ok-instance.ensures c.begin.ensures))
    c.make_room.ensures.silences c.make_room.ensures.log c.make_room.ensures.lines c.in_ok-make_room.ensures.room c.mark.ensures.silences c.mark.ensures.log c.mark.ensures.lines c.mark.ensures.room in
    λ replica here. (refl, changed (λ u replica. written (with_replica u c.args.place (started replica c.args.now)) (Started c.args.place c.args.now) (Started c.args.place c.args.now) c.args.line) _ _ _ c.args.place c.index.result.now c.self.view_is found same replica here)
