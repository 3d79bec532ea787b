use Rattle.am_api_silences.specs.declared.reply_builder.ReplyBuilder.TheVariants.{Whole}
use Rattle.am_server.proofs.Calls.{alerts_replied}
use Rattle.am_daemon.proofs.member.server_state.ServerState.list_recent.Goals as goal

pub returns : goal.returns
returns g c = λ request stand asked. alerts_replied request (Whole c.told-reply.result) stand stand asked
