use Rattle.am_silence_json.proofs.Bodies.{body_is}
use Rattle.serde_json.specs.Data.{string}
use Rattle.am_silence_json.proofs.replies.write_error.Goals as goal

pub returns : goal.returns
returns c =
    body_is _ _ _ _ (string c.args.text.now)
    c.new-writer.ensures.before c.new-writer.ensures.tokens c.in_ok-add.ensures c.into_inner.ensures.items
