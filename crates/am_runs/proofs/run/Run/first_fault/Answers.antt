use Rattle.std.proofs.Common.{map, length, refl, sym, subst}
use Rattle.std.proofs.lemmas.Option.{slice_get_read}
use Rattle.am_merge.proofs.Keys.{key_order}
use Rattle.am_runs.specs.Records.{step_of}
use Rattle.am_runs.specs.MemberIndexes.{AreMemberIndexes}
use Rattle.am_runs.proofs.Faults.{fault_told}
use Rattle.am_runs.proofs.run.Run.first_fault.Goals as goal

pub returns-in-Some : goal.returns-in-Some
returns-in-Some g c =
    let l = c.in-Some.ensures.lookup in
    let are = subst (λ ss. AreMemberIndexes g.V.Version.seen g.V.Key.Ord.cmp ss (map step_of c.self.inside.steps.items)) (sym c.deref.ensures.value) c.self.invariant.stands in
    rw (← c.self.view_is)
    (fault_told g.V.Version.seen g.V.Key.Ord.cmp (key_order g.met.V.Key.Ord.total g.met.V.Version.exact_keys) c.self.inside.members c.args.place (map step_of c.self.inside.steps.items) c.in-Some.index.now.fault c.self.invariant.run
    (are c.args.place c.in-Some.index.now (slice_get_read c.deref.result.now (length c.deref.result.now) c.args.place c.in-Some.index.now refl l.3.0 l.1)).fault)

pub returns-in-None : goal.returns-in-None
returns-in-None g c =
    rw (← c.self.view_is)
    ((rw c.deref-in-None.ensures.value at c.first_fault.ensures) c.self.inside.members c.self.invariant.run)
