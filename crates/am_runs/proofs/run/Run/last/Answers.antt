use Rattle.std.proofs.Common.{◌∙◌, [], map, ltb, length, refl, sym, subst}
use Rattle.std.proofs.lemmas.Option.{slice_get_read}
use Rattle.am_runs.specs.Records.{step_of}
use Rattle.am_runs.specs.MemberIndexes.{AreMemberIndexes}
use Rattle.am_runs.proofs.Starts.{last_told}
use Rattle.am_runs.proofs.run.Run.last.Goals as goal

pub returns-in-Some : goal.returns-in-Some
returns-in-Some g c =
    let l = c.in-Some.ensures.lookup in
    let are = subst (λ ss. AreMemberIndexes g.V.Version.seen g.V.Key.Ord.cmp ss (map step_of c.self.inside.steps.items)) (sym c.deref.ensures.value) c.self.invariant.stands in
    rw (← c.self.view_is)
    ((are c.args.place c.in-Some.index.now (slice_get_read c.deref.result.now (length c.deref.result.now) c.args.place c.in-Some.index.now refl l.3.0 l.1)).acted
    ∙ last_told c.args.place (record { past = []; saved = []; runs = ltb c.args.place c.self.inside.members }) (map step_of c.self.inside.steps.items))

pub returns-in-None : goal.returns-in-None
returns-in-None g c = rw (← c.self.view_is) ((rw c.deref-in-None.ensures.value at c.last_from.ensures) ∙ last_told c.args.place (record { past = []; saved = []; runs = ltb c.args.place c.self.inside.members }) (map step_of c.self.inside.steps.items))
