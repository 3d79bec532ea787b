use Rattle.std.proofs.Common.{◌∙◌, [], ap, map, ltb, length, refl, sym, subst}
use Rattle.std.proofs.lemmas.Bool.{lt-ltb}
use Rattle.std.proofs.lemmas.Option.{slice_get_read}
use Rattle.am_runs.specs.Records.{step_of}
use Rattle.am_runs.specs.MemberIndexes.{AreMemberIndexes}
use Rattle.am_runs.specs.Tests.{runs_from}
use Rattle.am_runs.proofs.Starts.{runs_told}
use Rattle.am_runs.proofs.run.Run.runs.Goals as goal

pub returns-in-Some : goal.returns-in-Some
returns-in-Some g c =
    let l = c.in-Some.ensures.lookup in
    let are = subst (λ ss. AreMemberIndexes g.V.Version.seen g.V.Key.Ord.cmp ss (map step_of c.self.inside.steps.items)) (sym c.deref.ensures.value) c.self.invariant.stands in
    rw (← c.self.view_is)
    ((are c.args.place c.in-Some.index.now (slice_get_read c.deref.result.now (length c.deref.result.now) c.args.place c.in-Some.index.now refl l.3.0 l.1)).runs
    ∙ ap (λ b. runs_from c.args.place b (map step_of c.self.inside.steps.items)) (sym (lt-ltb c.args.place c.self.inside.members c.if-place-self.true))
    ∙ runs_told c.args.place (record { past = []; saved = []; runs = ltb c.args.place c.self.inside.members }) (map step_of c.self.inside.steps.items))

pub returns-in_default : goal.returns-in_default
returns-in_default g c = rw (← c.self.view_is) ((rw c.deref-in_default.ensures.value at c.runs_from.ensures) ∙ runs_told c.args.place (record { past = []; saved = []; runs = ltb c.args.place c.self.inside.members }) (map step_of c.self.inside.steps.items))
