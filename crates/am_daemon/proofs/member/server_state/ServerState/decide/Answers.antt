use Rattle.am_server.proofs.Calls.{decided_answer}
use Rattle.am_server.proofs.Steps.{decided_made}
use Rattle.am_daemon.proofs.Calling.{given_called}
use Rattle.am_daemon.proofs.Sending.{outlets_are}
use Rattle.std.proofs.Common.{◌∙◌}
use Rattle.am_daemon.proofs.member.server_state.ServerState.decide.Goals as goal

pub returns-clause-steps : goal.returns-clause-steps
returns-clause-steps g c = decided_made _ _ _ _ _ c.decide-verdict.ensures.decided

pub returns-clause-called : goal.returns-clause-called
returns-clause-called g c = λ request question start same asked underway only.
    given_called request question start c.decide-verdict.result.reply c.args.unheard _ asked only c.answer_or_hear.result
    (decided_answer question _ c.args.deciding start _ _ _ underway same c.decide-verdict.ensures.decided) c.answer_or_hear.ensures.gives

pub returns-clause-quiet : goal.returns-clause-quiet
returns-clause-quiet g c = record { same = c.decide-verdict.ensures.same; stays = c.answer_or_hear.ensures.stays ∙ outlets_are _ _ _ _ _ c.count_decided.ensures.0 c.count_decided.ensures.1 }
