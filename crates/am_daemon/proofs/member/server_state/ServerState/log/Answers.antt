use Rattle.am_server.proofs.Calls.{notice_replied}
use Rattle.am_server.proofs.Steps.{logged_made}
use Rattle.am_member.proofs.Finished.{finish_of}
use Rattle.std.proofs.Common.{refl}
use Rattle.am_daemon.proofs.Sending.{notice_on}
use Rattle.am_daemon.proofs.member.server_state.ServerState.log.Goals as goal

pub returns-clause-steps : goal.returns-clause-steps
returns-clause-steps g c =
    let whole = finish_of c.log_notice-making.result.making in
    logged_made _ _ _ _ _ (c.log_notice-making.ensures whole.0 whole.1)

pub returns-clause-called : goal.returns-clause-called
returns-clause-called g c = λ request asked. notice_replied request c.args.notice _ _ _ c.log_notice-making.result asked c.log_notice-making.ensures

pub returns-clause-sent : goal.returns-clause-sent
returns-clause-sent g c = notice_on c.next_moment-now.result c.args.notice _ _ _ _ c.log_notice-making.result c.log_notice-making.ensures
    (record { logged = c.follow.ensures.followed; queued = c.follow.ensures.queued; put_by = refl })
