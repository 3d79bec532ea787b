use Rattle.std.proofs.Common.{◌∙◌}
use Rattle.am_daemon.proofs.Answering.{steps_taken}
use Rattle.am_daemon.proofs.Sending.{outlets_are, said_on}
use Rattle.am_daemon.proofs.member.server_state.ServerState.take_in.Goals as goal

pub returns-clause-taken : goal.returns-clause-taken
returns-clause-taken g c = steps_taken _ _ _ _ _ _ _ _ c.defer_requests-said.ensures.said c.make_steps-exchanged.ensures.exchanged c.make_steps-exchanged.ensures.session
    c.reply.ensures.stays c.reply.ensures.says

pub returns-clause-sent : goal.returns-clause-sent
returns-clause-sent g c = said_on _ _ _ _ _ _ _ c.make_steps-exchanged.result c.make_steps-exchanged.ensures.exchanged
    (c.handle_frames.ensures ∙ (c.make_steps-exchanged.ensures.stays ∙ outlets_are _ _ _ _ _ c.take.ensures.store c.take.ensures.outbound)) c.reply.ensures.passed
