use Rattle.std.proofs.Common.{refl}
use Rattle.am_daemon.proofs.Resuming.{call_taken_up, list_taken_up}
use Rattle.am_daemon.proofs.Sending.{still_on}
use Rattle.am_daemon.proofs.member.server_state.ServerState.resume.Goals as goal

pub returns-in-Building-clause-taken_up : goal.returns-in-Building-clause-taken_up
returns-in-Building-clause-taken_up g c =
    list_taken_up _ _ _ _ _ _ _ _ c.in-Building.ensures.after c.in-Building.ensures.value refl c.resume.ensures.stays c.resume.ensures.says

pub returns-in-Call-clause-taken_up : goal.returns-in-Call-clause-taken_up
returns-in-Call-clause-taken_up g c =
    call_taken_up _ _ _ _ _ _ _ _ c.in-Call.ensures.after c.in-Call.ensures.value c.resume_call.ensures.rests c.resume_call.ensures.gone c.resume_call.ensures.given
    c.resume_call.ensures.steps

pub returns-in-Building-clause-sent : goal.returns-in-Building-clause-sent
returns-in-Building-clause-sent g c = still_on _ _ _ _ refl refl

pub returns-in_default-clause-sent : goal.returns-in_default-clause-sent
returns-in_default-clause-sent g c = still_on _ _ _ _ refl refl
