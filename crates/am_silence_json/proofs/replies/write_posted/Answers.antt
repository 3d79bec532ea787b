use Rattle.am_silence_json.specs.Gettables.{posted_data}
use Rattle.am_silence_json.proofs.Bodies.{body_is}
use Rattle.am_silence_json.proofs.replies.write_posted.Goals as goal

pub returns : goal.returns
returns c =
    body_is _ _ _ _ (posted_data c.args.id.now)
    c.new-writer.ensures.before c.new-writer.ensures.tokens c.in_ok-add_posted.ensures c.into_inner.ensures.items
