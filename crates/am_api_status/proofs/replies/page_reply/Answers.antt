use Rattle.std.proofs.Common.{◌≡◌, subst}
use Rattle.std.specs.Prelude.{IfOk}
use Rattle.am_api_status.specs.Replies.{told_bytes}
use Rattle.am_api_status.specs.declared.replies.BodyFormat.TheVariants as formats
use Rattle.am_api_status.proofs.replies.page_reply.Goals as goal

pub returns : goal.returns
returns c =
    subst (λ body. IfOk c.tell.result (λ bytes. bytes.items ≡ told_bytes formats.Html c.args.is_bare body))
    c.as_bytes.ensures.value c.tell.ensures
