use Rattle.std.proofs.Common.{subst}
use Rattle.am_api_decisions.specs.declared.answer.Why.{Why}
use Rattle.am_api_silences.specs.Replies.{Says}
use Rattle.am_api_decisions.specs.Settling.{IsAnswerBytes}
use Rattle.am_api_decisions.proofs.settling.told_by.Goals as goal

pub returns-in-Decided-clause-says : goal.returns-in-Decided-clause-says
returns-in-Decided-clause-says c =
    rw c.in-Decided.is (subst (λ (why : Why). Says (IsAnswerBytes c.args.timing c.args.judged.group c.args.judged.tally why) c.told_of.result.reply) c.why_of-why.ensures c.told_of.ensures.says)
