use Rattle.am_silence_json.proofs.Bodies.{body_is}
use Rattle.am_api_decisions.specs.Answers.{logged_data}
use Rattle.am_api_decisions.proofs.reply_bytes.write_logged.Goals as goal

pub returns : goal.returns
returns c =
    body_is _ _ _ _ (logged_data c.args.is_logged)
    c.new-writer.ensures.before c.new-writer.ensures.tokens c.in_ok-add_logged.ensures c.into_inner.ensures.items
