use Rattle.std.proofs.Common.{◌≡◌, ℕ, ap, sym, ◌∙◌}
use Rattle.std.specs.Option.{option_copied}
use Rattle.am_silence.specs.Plans.{ended_of}
use Rattle.am_silence.specs.Refusals.{end_refusal}
use Rattle.am_instance.specs.InstanceStates.{InstanceState}
use Rattle.am_instance.specs.Replies.{silence_in_view}
use Rattle.am_instance.proofs.RequestWorks.{delete_done, delete_refused}
use Rattle.am_instance.proofs.instance.Instance.delete.Goals as goal

pub returns-in-Ok : goal.returns-in-Ok
returns-in-Ok c =
    let held = option_copied c.silence_in_view-held.result in
    let is = c.silence_in_view-held.ensures ∙ ap (λ (s : InstanceState). silence_in_view c.args.now s.silences c.args.id.now) c.self.view_is in
    let retention : c.retention.result ≡ c.args.self.now.config.retention = c.retention.ensures ∙ ap (λ (s : InstanceState). s.config.retention) c.self.view_is in
    delete_done c.args.self.now c.put_one.new.self c.args.id.now c.args.now held c.in-Ok.version c.put_one.result is
    (ap (λ (r : ℕ). ended_of held c.args.now r) (sym retention) ∙ c.in-Ok.ensures.ended) (ap (λ (r : ℕ). end_refusal held c.args.now r) (sym retention) ∙ c.in-Ok.ensures.accepted)
    c.put_one.ensures.put c.put_one.ensures.err c.put_one.ensures.unchanged

pub returns-in-Err : goal.returns-in-Err
returns-in-Err c =
    let held = option_copied c.silence_in_view-held.result in
    let is = c.silence_in_view-held.ensures ∙ ap (λ (s : InstanceState). silence_in_view c.args.now s.silences c.args.id.now) c.self.view_is in
    let retention : c.retention.result ≡ c.args.self.now.config.retention = c.retention.ensures ∙ ap (λ (s : InstanceState). s.config.retention) c.self.view_is in
    delete_refused c.args.self.now c.args.id.now c.args.now held c.in-Err.error c.refuse.result is
    (λ other. ap (λ (r : ℕ). end_refusal held c.args.now r) (sym retention) ∙ c.in-Err.ensures.refused other)
    (λ memory. ap (λ (r : ℕ). end_refusal held c.args.now r) (sym retention) ∙ c.in-Err.ensures.memory memory) c.refuse.ensures.refused c.refuse.ensures.memory
