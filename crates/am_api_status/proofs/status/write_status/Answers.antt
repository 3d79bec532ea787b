use Rattle.std.proofs.Common.{[], ◌∙◌}
use Rattle.am_silence_json.proofs.Bodies.{body_is}
use Rattle.am_api_status.specs.Statuses.{status_data}
use Rattle.am_api_status.proofs.status.write_status.Goals as goal

pub returns : goal.returns
returns c =
    body_is _ _ [] _ (status_data c.args.status.now c.args.start.now)
    (c.new-writer.ensures.before ∙ c.new.ensures.items) c.new-writer.ensures.tokens c.in_ok-add_member_status.ensures c.into_inner.ensures.items
