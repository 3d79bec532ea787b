use Rattle.std.proofs.Common.{[], ◌∷◌, ◌++◌, sym, ap, ◌∙◌, subst, map}
use Rattle.std.specs.Prelude.{All}
use Rattle.std.proofs.lemmas.List.{map-append}
use Rattle.std.proofs.lemmas.List.Elements.{All-append}
use Rattle.am_runs.specs.Records.{Record, step_of}
use Rattle.am_runs.specs.Runs.{IsPossible, IsRun}
use Rattle.am_runs.specs.MemberIndexes.{AreMemberIndexes}
use Rattle.am_runs.specs.Steps.{delivered_by, delivered_in}
use Rattle.am_runs.proofs.Pasts.{delivered_in-push}
use Rattle.am_runs.proofs.run.Run.append.Goals as goal

pub invariant_of-self : goal.invariant_of-self
invariant_of-self g c =
    let seen = g.V.Version.seen in
    let cmp = g.V.Key.Ord.cmp in
    let old = c.self.inside.steps.items in
    let grown = ap (map step_of) c.push_reserved.ensures.items ∙ map-append step_of old (c.args.step ∷ []) in
    let possible = subst (λ (r : Record g.row.V.Denot). IsPossible seen cmp r.members r.steps (step_of c.args.step)) (sym c.self.view_is) c.requires.possible in
    record {
      run = subst (IsRun seen cmp c.self.inside.members) (sym grown) ((c.one_step_more.ensures.run c.self.inside.members (map step_of old) (step_of c.args.step)).1 (c.self.invariant.run, possible));
      values = subst (All g.V.Version.is_value) (sym (ap delivered_in grown ∙ delivered_in-push (map step_of old) (step_of c.args.step)))
          (All-append g.V.Version.is_value (delivered_in (map step_of old)) (delivered_by (step_of c.args.step)) c.self.invariant.values
          (subst (All g.V.Version.is_value) c.versions.ensures c.versions_are_values.ensures));
      stands = subst (AreMemberIndexes seen cmp c.note.new.indexes.items) (sym grown)
          (subst (λ ss. AreMemberIndexes seen cmp c.note.new.indexes.items (map step_of ss ++ step_of c.args.step ∷ [])) c.deref.ensures.value
          (c.note.ensures (subst (λ ss. AreMemberIndexes seen cmp c.self.inside.indexes.items (map step_of ss)) (sym c.deref.ensures.value) c.self.invariant.stands)));
    }
