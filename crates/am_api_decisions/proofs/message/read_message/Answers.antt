use Rattle.std.proofs.Common.{◌≡◌, true}
use Rattle.serde_json.specs.View.{view}
use Rattle.am_api_decisions.specs.Messages.{is_truncated}
use Rattle.am_api_decisions.proofs.message.read_message.Goals as goal

pub returns-then-is_truncated-clause-truncated : goal.returns-then-is_truncated-clause-truncated
returns-then-is_truncated-clause-truncated c = λ _.
    let truncated : is_truncated (view c.in_ok-object.object) ≡ true = cc (c.is_truncated.ensures, c.if-is_truncated.true) in
    (view c.in_ok-object.object, c.in_ok-object.ensures.read, record { message = c.in_ok-message.message; says = c.in_ok-message.ensures.read; truncated = truncated })
