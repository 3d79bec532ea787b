use Rattle.std.proofs.Common.{length, ap, subst, ◌∙◌}
use Rattle.am_api_decisions.specs.Deciding.{Underway}
use Rattle.am_api_decisions.specs.Settling.{IsSettled}
use Rattle.am_api_decisions.specs.declared.settling.Judgement.TheVariants.{Whole}
use Rattle.am_api_decisions.proofs.Same.{same_on, settled_same}
use Rattle.am_api_decisions.proofs.Whole.{decided_over}
use Rattle.am_api_decisions.proofs.deciding.Deciding.decide.Goals as goal

pub returns-in-Ok-clause-decided : goal.returns-in-Ok-clause-decided
returns-in-Ok-clause-decided c =
    decided_over c.args.timing c.len-count.result c.args.self c.in-Ok.deciding c.args.instance.now c.resume.new.instance c.settle.new.instance c.settle.result.reply
    (c.len-count.ensures ∙ c.self.invariant ∙ ap (λ (u : Underway). length u.left) c.self.view_is) c.in-Ok.ensures.asked
    (subst (λ (u : Underway). IsSettled Whole c.args.timing u.group u.counted c.resume.new.instance c.settle.result.reply c.settle.new.instance) c.deciding.view_is
    c.settle.ensures.settled)

pub returns-in-Ok-clause-same : goal.returns-in-Ok-clause-same
returns-in-Ok-clause-same c =
    same_on c.args.instance.now c.resume.new.instance c.settle.new.instance c.resume.ensures.same
    (settled_same Whole c.args.timing c.in-Ok.deciding.group c.in-Ok.deciding.counted c.resume.new.instance c.settle.new.instance c.settle.result.reply
    (subst (λ (u : Underway). IsSettled Whole c.args.timing u.group u.counted c.resume.new.instance c.settle.result.reply c.settle.new.instance) c.deciding.view_is
    c.settle.ensures.settled))
