use Rattle.std.proofs.Common.{◌≡◌, refl, ap, sym, subst, ◌∙◌}
use Rattle.std.specs.Option.{option_copied}
use Rattle.std.proofs.lemmas.Result.{err_from_is_err_and}
use Rattle.am_silence.specs.States.{state_of}
use Rattle.am_silence.specs.Mesh.{Mesh}
use Rattle.am_silence.specs.declared.state.State.{State}
use Rattle.am_instance.specs.declared.reply.Reply.TheVariants as replies
use Rattle.am_instance.specs.InstanceStates.{InstanceState}
use Rattle.am_instance.specs.Replies.{found_reply, not_found, silence_in_view}
use Rattle.am_instance.proofs.Works.{quiet_work, stopped_work}
use Rattle.am_instance.proofs.instance.Instance.get.Goals as goal

pub returns-in_default : goal.returns-in_default
returns-in_default c =
    let none = sym (ap option_copied c.in_default.is) ∙ c.silence_in_view.ensures in
    rw (← c.self.view_is) (quiet_work _ _ c.args.now c.quiet.result refl refl refl refl c.quiet.ensures.sent c.quiet.ensures.made
    (subst (λ found. found_reply c.args.now found c.quiet.result.reply) none c.quiet.ensures.reply, c.quiet.ensures.made))

pub returns-in_err-copy : goal.returns-in_err-copy
returns-in_err-copy c =
    let p = err_from_is_err_and c.from_residual.result c.from_residual.ensures.1 in
    let found = sym (ap option_copied c.in-Some.is) ∙ c.silence_in_view.ensures ∙ ap (λ (s : InstanceState). silence_in_view c.args.now s.silences c.args.id.now) c.self.view_is in
    rw p.1 (stopped_work c.args.self.now c.args.self.now _ c.args.now _ p.2 refl (ap not_found (sym found)))

pub returns : goal.returns
returns c =
    let found = sym (ap option_copied c.in-Some.is) ∙ c.silence_in_view.ensures in
    let v = c.in-Some.version.now in
    let reply : c.quiet-2.result.reply ≡ replies.Silence v (state_of v.silence c.args.now) =
    c.quiet-2.ensures.reply ∙ ap (λ (m : Mesh). replies.Silence m c.state_at-state.result) c.in_ok-copy.ensures
    ∙ ap (λ (s : State). replies.Silence v s) c.state_at-state.ensures.state in
    rw (← c.self.view_is) (quiet_work _ _ c.args.now c.quiet-2.result refl refl refl refl c.quiet-2.ensures.sent c.quiet-2.ensures.made
    (subst (λ o. found_reply c.args.now o c.quiet-2.result.reply) found reply, c.quiet-2.ensures.made))
