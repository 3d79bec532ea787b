use Rattle.std.proofs.Common.{◌≡◌, ℕ, List, ap, subst, ◌∙◌}
use Rattle.std.specs.Prelude.{◌≢◌, Option, Some, None, IfOk, IfErr, OnOk}
use Rattle.std.specs.Option.{option_copied}
use Rattle.am_silence.specs.Plans.{post_of, planned}
use Rattle.am_silence.specs.Refusals.{refusal}
use Rattle.am_silence.specs.declared.error.SilenceError.TheVariants.{Memory}
use Rattle.am_instance.specs.Replies.{posted_over}
use Rattle.am_instance.specs.InstanceStates.{InstanceState}
use Rattle.am_instance.proofs.RequestWorks.{planned_by, refused_for_memory}
use Rattle.am_instance.proofs.instance.Instance.plan.Goals as goal

pub returns-clause-planned : goal.returns-clause-planned
returns-clause-planned c =
    let stand = c.args.self.now in
    let held = option_copied c.posted_over-held.result in
    let is : held ≡ posted_over c.args.now stand.silences c.args.posted.id =
    c.posted_over-held.ensures ∙ ap (λ (id : Option (List ℕ)). posted_over c.args.now c.self.inside.silences id) c.as_ref.ensures.value
    ∙ ap (λ (s : InstanceState). posted_over c.args.now s.silences c.args.posted.id) c.self.view_is in
    let retention : c.retention-retention.result ≡ stand.config.retention = c.retention-retention.ensures ∙ ap (λ (s : InstanceState). s.config.retention) c.self.view_is in
    planned_by stand c.args.posted c.args.bits c.args.now c.args.verdict held c.is_fresh_held-id_held.result c.plan_post.result c.requires is c.is_fresh_held-id_held.ensures
    (subst (λ (r : ℕ). IfOk c.plan_post.result (λ plan. plan ≡ planned held (post_of c.args.posted c.args.now c.args.bits r))) retention c.plan_post.ensures.planned)
    (subst (λ (r : ℕ). OnOk c.plan_post.result (refusal held c.args.verdict c.is_fresh_held-id_held.result (post_of c.args.posted c.args.now c.args.bits r) ≡ None)) retention c.plan_post.ensures.accepted)
    (subst (λ (r : ℕ). IfErr c.plan_post.result (λ e. e ≢ Memory → refusal held c.args.verdict c.is_fresh_held-id_held.result (post_of c.args.posted c.args.now c.args.bits r) ≡ Some e)) retention c.plan_post.ensures.refused)

pub returns-clause-memory : goal.returns-clause-memory
returns-clause-memory c =
    let stand = c.args.self.now in
    let held = option_copied c.posted_over-held.result in
    let is : held ≡ posted_over c.args.now stand.silences c.args.posted.id =
    c.posted_over-held.ensures ∙ ap (λ (id : Option (List ℕ)). posted_over c.args.now c.self.inside.silences id) c.as_ref.ensures.value
    ∙ ap (λ (s : InstanceState). posted_over c.args.now s.silences c.args.posted.id) c.self.view_is in
    let retention : c.retention-retention.result ≡ stand.config.retention = c.retention-retention.ensures ∙ ap (λ (s : InstanceState). s.config.retention) c.self.view_is in
    refused_for_memory stand c.args.posted c.args.bits c.args.now c.args.verdict held c.is_fresh_held-id_held.result c.plan_post.result is c.is_fresh_held-id_held.ensures
    (subst (λ (r : ℕ). IfErr c.plan_post.result (λ e. e ≡ Memory → refusal held c.args.verdict c.is_fresh_held-id_held.result (post_of c.args.posted c.args.now c.args.bits r) ≡ None)) retention c.plan_post.ensures.memory)
