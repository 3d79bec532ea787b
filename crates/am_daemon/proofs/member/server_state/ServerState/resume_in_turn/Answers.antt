use Rattle.am_daemon.proofs.Resuming.{call_given, call_lasts}
use Rattle.std.proofs.Common.{refl}
use Rattle.am_daemon.proofs.Sending.{still_on}
use Rattle.am_daemon.proofs.member.server_state.ServerState.resume_in_turn.Goals as goal

pub returns-in-Call-clause-lasts : goal.returns-in-Call-clause-lasts
returns-in-Call-clause-lasts g c = call_lasts _ _ _ _ c.args.instance.now c.take_moment-called.new.instance _ _ c.in-Call.ensures.after c.in-Call.ensures.value
    c.follow_call.ensures.rests c.follow_call.ensures.gone (λ request silent came.
    c.follow_call.ensures.follows request c.args.instance.now c.take_moment-called.new.instance silent (c.take_moment-called.ensures.called request came))

pub returns-in-Call-clause-given : goal.returns-in-Call-clause-given
returns-in-Call-clause-given g c = call_given _ _ _ _ c.args.instance.now c.take_moment-called.new.instance _ _ c.in-Call.ensures.after c.in-Call.ensures.value
    c.follow_call.ensures.rests c.follow_call.ensures.gone (λ request silent came.
    c.follow_call.ensures.follows request c.args.instance.now c.take_moment-called.new.instance silent (c.take_moment-called.ensures.called request came))

pub returns-in_default-clause-sent : goal.returns-in_default-clause-sent
returns-in_default-clause-sent g c = still_on _ _ _ _ refl refl
