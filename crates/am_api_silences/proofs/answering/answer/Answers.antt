use Rattle.am_api_silences.specs.Answers.{Answered, IsRequestAnswer}
use Rattle.am_api_silences.proofs.Beginning.{whole_is}
use Rattle.am_api_silences.proofs.answering.answer.Goals as goal

pub returns : goal.returns
returns c = whole_is (λ (answered : Answered). IsRequestAnswer c.args.instance.now c.args.request.now c.args.bits c.args.now answered c.begin_answer.new.instance) c.begin_answer.result
    c.finish.result c.begin_answer.ensures c.finish.ensures.reply c.finish.ensures.sent
