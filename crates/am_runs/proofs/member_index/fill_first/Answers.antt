use Rattle.std.proofs.Common.{sym, ◌∙◌, subst, map, length}
use Rattle.std.proofs.lemmas.Bool.{eqb-true}
use Rattle.am_runs.specs.Records.{step_of}
use Rattle.am_runs.specs.MemberIndexes.{AreMemberIndexes}
use Rattle.am_runs.proofs.Stands.{nil_of}
use Rattle.am_runs.proofs.member_index.fill_first.Goals as goal

pub returns : goal.returns
returns g c are =
    let none = nil_of c.args.steps.now (eqb-true (length c.args.steps.now) 0 (sym c.is_empty.ensures ∙ c.if-not-is_empty.false)) in
    subst (λ ss. AreMemberIndexes g.V.Version.seen g.V.Key.Ord.cmp c.fill.new.indexes.items (map step_of ss)) (sym none)
    (c.fill.ensures (subst (λ ss. AreMemberIndexes g.V.Version.seen g.V.Key.Ord.cmp c.args.indexes.now.items (map step_of ss)) none are))
