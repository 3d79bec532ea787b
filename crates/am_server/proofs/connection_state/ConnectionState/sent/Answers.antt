use Rattle.std.proofs.Common.{◌≡◌, ◌∙◌, ap, rules, arith}
use Rattle.std.proofs.lemmas.Grind.{common_steps}
use Rattle.am_server.specs.Talks.{Talk, pending_in, sent_in, talk_of}
use Rattle.am_server.proofs.Sendings.{pending_rest}
use Rattle.am_server.proofs.connection_state.ConnectionState.sent.Goals as goal

pub returns-clause-rest : goal.returns-clause-rest
returns-clause-rest c =
    let talk : Talk = talk_of c.args.self.now in
    let sent : talk_of c.reply_sent.new.self ≡ sent_in c.args.count talk = first_of (search rules, grind (arith, common_steps)) in
    ap pending_in sent ∙ pending_rest c.args.count talk
