use Rattle.std.proofs.Common.{List, subst}
use Rattle.std.specs.Prelude.{IfOk}
use Rattle.am_matcher.specs.declared.labels.Label.{Label}
use Rattle.am_matcher.specs.Dialects.{DoMatch}
use Rattle.am_matcher.proofs.judged.judge_by_no_labels.Goals as goal

pub returns-clause-answer : goal.returns-clause-answer
returns-clause-answer c =
    subst (λ (ls : List Label). IfOk c.judge_all.result (DoMatch c.args.dialect c.args.matchers ls)) c.none-labels.ensures c.judge_all.ensures.answer
