use Rattle.am_silence_json.proofs.Bodies.{body_is}
use Rattle.am_api_decisions.specs.Answers.{answer_data}
use Rattle.am_api_decisions.proofs.reply_bytes.write_answer.Goals as goal

pub returns : goal.returns
returns c =
    body_is _ _ _ _ (answer_data c.args.answer.now)
    c.new-writer.ensures.before c.new-writer.ensures.tokens c.in_ok-add_answer.ensures c.into_inner.ensures.items
