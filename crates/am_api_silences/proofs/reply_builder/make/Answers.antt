use Rattle.std.proofs.Common.{refl}
use Rattle.am_api_silences.specs.Replies.{IsReplyBytes, IsSiftedBytes, Says}
use Rattle.am_api_silences.specs.declared.reply_builder.ReplyBuilder.TheVariants as makings
use Rattle.am_api_silences.proofs.Beginning.{whole_makes}
use Rattle.am_api_silences.proofs.Passing.{other_sifted}
use Rattle.am_api_silences.proofs.Telling.{says_weaker}
use Rattle.am_api_silences.proofs.reply_builder.make.Goals as goal

pub returns-in_default : goal.returns-in_default
returns-in_default c =
    let filters = c.args.filters.items in
    let reply = c.args.reply in
    whole_makes (Says (IsSiftedBytes filters reply)) c.tell.result (makings.Whole c.tell.result) refl (
    says_weaker (IsReplyBytes reply) (IsSiftedBytes filters reply) (other_sifted filters reply c.in_default.not-Silences) c.tell.result c.tell.ensures
    )
