use Rattle.std.proofs.Common.{refl, subst}
use Rattle.am_daemon.specs.Calling.{IsCalled}
use Rattle.am_server.proofs.Calls.{put_given}
use Rattle.am_http.specs.declared.request.Request.{Request}
use Rattle.am_daemon.proofs.Sending.{quiet_on, still_on}
use Rattle.am_daemon.proofs.member.server_state.ServerState.resume_call.Goals as goal

pub returns-in-Turn-clause-given : goal.returns-in-Turn-clause-given
returns-in-Turn-clause-given g c = rw c.in-Turn.is (λ request silent came. put_given _ request c.args.instance.now c.args.instance.now _ _ silent c.put_off.ensures.puts came)

pub returns-in-Due-clause-given : goal.returns-in-Due-clause-given
returns-in-Due-clause-given g c = rw c.in-Due.is (λ request silent came.
    c.follow_call.ensures.follows request c.args.instance.now c.answer_due-called.new.instance silent
    (subst (λ (r : Request). IsCalled r c.args.instance.now c.answer_due-called.result c.answer_due-called.new.instance) came c.answer_due-called.ensures.called))

pub returns-in-Deciding-clause-given : goal.returns-in-Deciding-clause-given
returns-in-Deciding-clause-given g c = rw c.in-Deciding.is (λ request silent came.
    c.follow_call-in-Deciding.ensures.follows request c.args.instance.now c.resume_decision-called.new.instance silent (c.resume_decision-called.ensures.called request came))

pub returns-in-Log-clause-given : goal.returns-in-Log-clause-given
returns-in-Log-clause-given g c = rw c.in-Log.is (λ request silent came. c.resume_log.ensures.given request c.args.instance.now c.args.instance.now silent came)

pub returns-in-Counting-clause-given : goal.returns-in-Counting-clause-given
returns-in-Counting-clause-given g c = rw c.in-Counting.is (λ request silent came. absurd came)

pub returns-in-Turn-clause-sent : goal.returns-in-Turn-clause-sent
returns-in-Turn-clause-sent g c = still_on _ _ _ _ refl refl

pub returns-in-Log-clause-sent : goal.returns-in-Log-clause-sent
returns-in-Log-clause-sent g c = still_on _ _ _ _ refl refl

pub returns-in-Counting-clause-sent : goal.returns-in-Counting-clause-sent
returns-in-Counting-clause-sent g c = still_on _ _ _ _ refl refl

pub returns-in-Deciding-clause-sent : goal.returns-in-Deciding-clause-sent
returns-in-Deciding-clause-sent g c = quiet_on _ _ _ _ c.resume_decision-called.ensures.quiet
