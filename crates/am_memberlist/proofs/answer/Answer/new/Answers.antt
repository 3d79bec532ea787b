use Rattle.std.proofs.Common.{◌≡◌, ◌∷◌, sym, ◌∙◌}
use Rattle.am_memberlist.proofs.Stretches.{begun_is}
use Rattle.am_memberlist.proofs.answer.Answer.new.Goals as goal

pub returns-in-Some : goal.returns-in-Some
returns-in-Some c =
    let whole : c.args.answer.items ≡ c.in-Some.kind.now ∷ c.in-Some.field-0-1.now = sym c.deref.ensures.value ∙ c.in-Some.ensures.cases.0 in
    begun_is c.args.most c.in-Some.kind.now c.in-Some.field-0-1.now c.args.answer.items c.new.result c.new.ensures whole c.if-kind-eq-COMPRESSED.true
