use Rattle.am_server.proofs.Calls.{broken_off_answer}
use Rattle.am_server.proofs.Steps.{broken_off_made}
use Rattle.am_daemon.proofs.Calling.{given_called}
use Rattle.am_daemon.proofs.Sending.{outlets_are}
use Rattle.std.proofs.Common.{◌∙◌}
use Rattle.am_daemon.proofs.member.server_state.ServerState.break_off.Goals as goal

pub returns-clause-steps : goal.returns-clause-steps
returns-clause-steps g c =
    broken_off_made (record { now = c.next_moment-now.result; turn_seconds = c.seconds_in-turn_seconds.result }) c.args.deciding _
    c.break_off-verdict.result.reply _ c.break_off-verdict.ensures.decided

pub returns-clause-called : goal.returns-clause-called
returns-clause-called g c = λ request question start same asked underway only.
    given_called request question start c.break_off-verdict.result.reply c.args.unheard _ asked only c.answer_or_hear.result
    (broken_off_answer question (record { now = c.next_moment-now.result; turn_seconds = c.seconds_in-turn_seconds.result }) c.args.deciding start _
    c.break_off-verdict.result.reply _ underway same c.break_off-verdict.ensures.decided) c.answer_or_hear.ensures.gives

pub returns-clause-quiet : goal.returns-clause-quiet
returns-clause-quiet g c = record { same = c.break_off-verdict.ensures.same; stays = c.answer_or_hear.ensures.stays ∙ outlets_are _ _ _ _ _ c.count_decided.ensures.0 c.count_decided.ensures.1 }
