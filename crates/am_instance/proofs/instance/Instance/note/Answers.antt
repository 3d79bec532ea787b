use Rattle.std.proofs.Common.{◌≡◌, ◌<◌, ◌≤◌, ℕ, length, refl, ap, sym, subst, ◌∙◌}
use Rattle.std.specs.Prelude.{Option, IfSome, IsNone, Err}
use Rattle.std.proofs.Math.Nat.{lt_of_not-le}
use Rattle.std.proofs.lemmas.Result.{err_from_is_err_and}
use Rattle.am_wire.specs.Limits.{most}
use Rattle.am_wire.specs.declared.error.WireError.{WireError}
use Rattle.am_nflog.specs.Mesh.{Mesh as LogMesh, writes_mesh_entry}
use Rattle.am_nflog.specs.Made.{made_entry, expiry}
use Rattle.am_instance.specs.InstanceStates.{InstanceState}
use Rattle.am_instance.proofs.NoticeWorks.{note_refused, note_done, note_none}
use Rattle.am_instance.proofs.instance.Instance.note.Goals as goal

pub returns-in_err-entry : goal.returns-in_err-entry
returns-in_err-entry c =
    let p = err_from_is_err_and c.from_residual.result c.from_residual.ensures.1 in
    let r : c.retention-retention.result ≡ c.args.self.now.config.retention = c.retention-retention.ensures ∙ ap (λ (s : InstanceState). s.config.retention) c.self.view_is in
    rw (p.1, p.2) (note_refused c.args.self.now c.args.group_key c.args.receiver c.args.firing c.args.resolved c.args.repeat c.args.now c.in_err-entry.field-0.0 c.in_err-entry.ensures.refused
    (λ is. subst (λ (n : ℕ). (c.args.now < expiry c.args.repeat n c.args.now) × (most < length (writes_mesh_entry (made_entry c.args.group_key c.args.receiver c.args.firing c.args.resolved c.args.repeat n c.args.now)))) r
    (c.in_err-entry.ensures.too_large.0 (ap (λ (e : WireError). Err e) is))))

pub returns-in-Some : goal.returns-in-Some
returns-in-Some c =
    let r : c.retention-retention.result ≡ c.args.self.now.config.retention = c.retention-retention.ensures ∙ ap (λ (s : InstanceState). s.config.retention) c.self.view_is in
    let known = c.in_ok-entry.ensures in
    let made = subst (λ (o : Option LogMesh). IfSome o (λ m. m ≡ made_entry c.args.group_key c.args.receiver c.args.firing c.args.resolved c.args.repeat c.retention-retention.result c.args.now)) c.in-Some.is known.made in
    let comes = lt_of_not-le (λ past. let never = subst (λ (o : Option LogMesh). IsNone o) c.in-Some.is (known.none.1 past) in absurd cc) in
    note_done c.args.self.now c.args.group_key c.args.receiver c.args.firing c.args.resolved c.args.repeat c.args.now c.put_entry.new.self c.in-Some.entry c.put_entry.result
    (made ∙ ap (λ (n : ℕ). made_entry c.args.group_key c.args.receiver c.args.firing c.args.resolved c.args.repeat n c.args.now) r)
    (subst (λ (n : ℕ). c.args.now < expiry c.args.repeat n c.args.now) r comes)
    (subst (λ (n : ℕ). ¬ ((c.args.now < expiry c.args.repeat n c.args.now) × (most < length (writes_mesh_entry (made_entry c.args.group_key c.args.receiver c.args.firing c.args.resolved c.args.repeat n c.args.now))))) r
    (λ both. let never = known.too_large.1 both in absurd cc))
    c.put_entry.ensures.put c.put_entry.ensures.err c.put_entry.ensures.unchanged

pub returns-in-None : goal.returns-in-None
returns-in-None c =
    let r : c.retention-retention.result ≡ c.args.self.now.config.retention = c.retention-retention.ensures ∙ ap (λ (s : InstanceState). s.config.retention) c.self.view_is in
    note_none c.args.self.now c.args.group_key c.args.receiver c.args.firing c.args.resolved c.args.repeat c.args.now c.quiet.result
    (subst (λ (n : ℕ). expiry c.args.repeat n c.args.now ≤ c.args.now) r (c.in_ok-entry.ensures.none.0 (subst (λ (o : Option LogMesh). IsNone o) (sym c.in-None.is) refl)))
    c.quiet.ensures.reply c.quiet.ensures.sent c.quiet.ensures.made
