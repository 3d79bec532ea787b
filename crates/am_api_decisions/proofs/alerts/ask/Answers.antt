use Rattle.std.proofs.Common.{List, IfOk, subst}
use Rattle.am_matcher.specs.declared.labels.Label.{Label}
use Rattle.am_api_decisions.specs.Asking.{IsMutesStep}
use Rattle.am_api_decisions.proofs.alerts.ask.Goals as goal

pub returns-in-Ok-clause-asked : goal.returns-in-Ok-clause-asked
returns-in-Ok-clause-asked c =
    subst (λ (labels : List Label). IfOk c.ask_by_step.result (λ ids. IsMutesStep c.args.now labels ids c.args.instance.now c.ask_by_step.new.instance))
    c.in-Ok.ensures c.ask_by_step.ensures.asked
