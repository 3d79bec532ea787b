use Rattle.am_api_decisions.proofs.Same.{same_self}
use Rattle.am_server.proofs.Calls.{question_replied}
use Rattle.am_server.proofs.Steps.{made_on}
use Rattle.std.proofs.Common.{refl}
use Rattle.am_daemon.proofs.Sending.{quiet_then}
use Rattle.am_daemon.proofs.member.server_state.ServerState.resume_decision.Goals as goal

pub returns-then-is_over-clause-called : goal.returns-then-is_over-clause-called
returns-then-is_over-clause-called g c = λ request came. c.break_off.ensures.called request came.0 _ (same_self _) came.1 came.2 came.3

pub returns-in-Err-clause-called : goal.returns-in-Err-clause-called
returns-in-Err-clause-called g c = λ request came reply says. question_replied request came.0 _ reply _ came.1 (c.in-Err.ensures.stopped came.0 came.2 reply says)

pub returns-in-Ok-clause-steps : goal.returns-in-Ok-clause-steps
returns-in-Ok-clause-steps g c = made_on _ _ _ _ c.ask_on.ensures.steps c.decide_or_put_off.ensures.steps

pub returns-in-Ok-clause-called : goal.returns-in-Ok-clause-called
returns-in-Ok-clause-called g c = λ request came.
    c.decide_or_put_off.ensures.called request came.0 _ c.ask_on.ensures.same came.1 (c.in-Ok.ensures.asked came.0 came.2) came.3

pub returns-in-Ok-clause-quiet : goal.returns-in-Ok-clause-quiet
returns-in-Ok-clause-quiet g c = quiet_then _ _ _ _ _ _ c.ask_on.ensures.same refl c.decide_or_put_off.ensures.quiet

pub returns-in-Err-clause-quiet : goal.returns-in-Err-clause-quiet
returns-in-Err-clause-quiet g c = record { same = c.ask_on.ensures.same; stays = refl }
