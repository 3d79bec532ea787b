use Rattle.std.proofs.Common.{subst, sym}
use Rattle.am_server.proofs.Calls.{begun_underway}
use Rattle.am_server.specs.Calls.{IsUnderway}
use Rattle.am_api_decisions.proofs.Same.{same_self}
use Rattle.am_daemon.proofs.Sending.{outlets_are, quiet_then}
use Rattle.am_daemon.proofs.member.server_state.ServerState.begin_deciding.Goals as goal

pub returns-clause-called : goal.returns-clause-called
returns-clause-called g c = λ request asked only. c.resume_decision.ensures.called request
    (c.args.question, asked, subst (IsUnderway c.args.question) (sym c.new-deciding.ensures) (begun_underway c.args.question), only)

pub returns-clause-quiet : goal.returns-clause-quiet
returns-clause-quiet g c = quiet_then _ _ _ _ _ _ (same_self _) (outlets_are _ _ _ _ _ c.count.ensures.store c.count.ensures.outbound) c.resume_decision.ensures.quiet
