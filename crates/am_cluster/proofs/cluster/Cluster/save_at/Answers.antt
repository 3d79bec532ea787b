use Rattle.std.proofs.Common.{true, refl, sym, ap, ◌∙◌, subst, set}
use Rattle.am_runs.specs.Steps.RunStep.{Saved}
use Rattle.am_cluster.specs.Worlds.{with_replica, written}
use Rattle.am_cluster.specs.Lives.{saved}
use Rattle.am_cluster.specs.Ties.{IsWorld}
use Rattle.am_cluster.proofs.Places.{set_length}
use Rattle.am_cluster.proofs.Lived.{answered, found_at, inside, read_again, runs_told, world_saved, world_written}
use Rattle.am_cluster.proofs.cluster.Cluster.save_at.Goals as goal

-- the member that is read first runs
pub mark-requires-clause-possible : goal.mark-requires-clause-possible
mark-requires-clause-possible c =
    let less = inside _ _ c.args.place c.self.view_is c.requires in
    let found = found_at c.self.inside.members.items c.args.place c.index.result.now less c.index.ensures in
    runs_told _ c.args.place c.index.result.now _ _ c.self.invariant.world found (c.make_room.ensures.members ∙ c.self.invariant.members) c.make_room.ensures.silences true
    (sym (ap (λ x. x.runs) c.behind-self.view_is) ∙ c.if-not-index.false)

pub invariant_of-self-2 : goal.invariant_of-self-2
invariant_of-self-2 c =
    let less = inside _ _ c.args.place c.self.view_is c.requires in
    let found = found_at c.self.inside.members.items c.args.place c.index_mut.result.now less c.index_mut.ensures.value in
    let same = world_written _ _ c.self.inside.flights.items c.self.inside.journal c.make_room.new.self c.mark.new.self (Saved c.args.place) (Saved c.args.place) c.args.line
    (ap (λ x. set c.self.inside.members.items c.args.place x) c.keep.ensures)
    c.make_room.ensures.silences c.make_room.ensures.log c.make_room.ensures.lines c.in_ok-make_room.ensures.room c.mark.ensures.silences c.mark.ensures.log c.mark.ensures.lines c.mark.ensures.room in record {
      members = c.mark.ensures.members ∙ (c.make_room.ensures.members ∙ (c.self.invariant.members ∙ sym (set_length c.self.inside.members.items c.args.place c.keep.new.self)));
      world = subst IsWorld (sym same) (world_saved _ c.args.place c.index_mut.result.now c.args.line c.self.invariant.world found);
    }

pub returns : goal.returns
returns c =
    let less = inside _ _ c.args.place c.self.view_is c.requires in
    let found = found_at c.self.inside.members.items c.args.place c.index.result.now less c.index.ensures in
    let again = read_again c.self.inside.members.items c.args.place c.index.result.now c.index_mut.result.now less c.index.ensures c.index_mut.ensures.value in
    let same = world_written _ _ c.self.inside.flights.items c.self.inside.journal c.make_room.new.self c.mark.new.self (Saved c.args.place) (Saved c.args.place) c.args.line
    (ap (λ x. set c.self.inside.members.items c.args.place x) (c.keep.ensures ∙ ap saved again))
    c.make_room.ensures.silences c.make_room.ensures.log c.make_room.ensures.lines c.in_ok-make_room.ensures.room c.mark.ensures.silences c.mark.ensures.log c.mark.ensures.lines c.mark.ensures.room in
    λ replica here. let is = answered (λ v replica. written (with_replica v c.args.place (saved replica)) (Saved c.args.place) (Saved c.args.place) c.args.line) _ _ _ c.args.place c.index.result.now true c.self.view_is found
    (sym (ap (λ x. x.runs) c.behind-self.view_is) ∙ c.if-not-index.false) same replica here in (refl, is.0, is.1)
