use Rattle.std.proofs.Common.{◌≡◌, ℕ, eqb, true, false, Err, refl, sym, ap, ◌∙◌, subst, length}
use Rattle.std.proofs.lemmas.Result.{err_from_is_err_and}
use Rattle.am_cluster.specs.Settling.{HasLate, HasStopped, IsAdmitted}
use Rattle.am_cluster.proofs.Admitted.{let_in_alone, let_in_with_members, not_so, unbegun_late, unbegun_without}
use Rattle.am_cluster.proofs.cluster.Cluster.admit.Goals as goal

pub returns-in_err-write_mark : goal.returns-in_err-write_mark
returns-in_err-write_mark c =
    let p = err_from_is_err_and c.from_residual.result c.from_residual.ensures.1 in
    subst (λ r. IsAdmitted c.args.self.now c.args.now c.args.line r c.write_mark.new.self) (sym (p.1 ∙ ap Err p.2))
    (unbegun_without c.args.self.now c.write_mark.new.self c.in_err-write_mark.ensures.unwritten c.in_err-write_mark.ensures.without_room)

pub returns-then-has_stopped : goal.returns-then-has_stopped
returns-then-has_stopped c = (
  subst HasStopped (c.deref.ensures.value ∙ ap (λ w. w.replicas) c.self.view_is) (c.has_stopped.ensures.0 c.if-has_stopped.true),
  c.in_ok-write_mark.ensures.written,
)

pub returns-in_err-refuse_late : goal.returns-in_err-refuse_late
returns-in_err-refuse_late c =
    let p = err_from_is_err_and c.from_residual-in_err-refuse_late.result c.from_residual-in_err-refuse_late.ensures.1 in
    subst (λ r. IsAdmitted c.args.self.now c.args.now c.args.line r c.refuse_late.new.self) (sym (p.1 ∙ ap Err p.2))
    (unbegun_late c.args.self.now c.refuse_late.new.self c.in_err-refuse_late.ensures.unwritten c.in_err-refuse_late.ensures.without_room)

pub returns-then-has_late : goal.returns-then-has_late
returns-then-has_late c = (
  subst (λ xs. ¬ HasStopped xs) (c.deref.ensures.value ∙ ap (λ w. w.replicas) c.self.view_is) (not_so c.has_stopped.result _ c.has_stopped.ensures c.if-has_stopped.false),
  subst (HasLate c.args.now) (c.deref-2.ensures.value ∙ ap (λ w. w.replicas) c.self.view_is) (c.has_late.ensures.0 c.if-has_late.true),
  c.in_ok-refuse_late.ensures.backs,
)

pub returns-in_err-write_mark-2 : goal.returns-in_err-write_mark-2
returns-in_err-write_mark-2 c =
    let p = err_from_is_err_and c.from_residual-in_err-write_mark-2.result c.from_residual-in_err-write_mark-2.ensures.1 in
    subst (λ r. IsAdmitted c.args.self.now c.args.now c.args.line r c.write_mark-then-is_empty.new.self) (sym (p.1 ∙ ap Err p.2))
    (unbegun_without c.args.self.now c.write_mark-then-is_empty.new.self c.in_err-write_mark-2.ensures.unwritten c.in_err-write_mark-2.ensures.without_room)

pub returns-in_ok-write_mark-2 : goal.returns-in_ok-write_mark-2
returns-in_ok-write_mark-2 c =
    let_in_alone c.args.self.now _ c.args.now c.args.line
    (subst (λ xs. ¬ HasStopped xs) (c.deref.ensures.value ∙ ap (λ w. w.replicas) c.self.view_is) (not_so c.has_stopped.result _ c.has_stopped.ensures c.if-has_stopped.false))
    (subst (λ xs. ¬ HasLate c.args.now xs) (c.deref-2.ensures.value ∙ ap (λ w. w.replicas) c.self.view_is) (not_so c.has_late.result _ c.has_late.ensures c.if-has_late.false))
    (subst (λ w. eqb (length w.replicas) 0 ≡ true) c.self.view_is (sym (c.is_empty.ensures ∙ ap (λ (n : ℕ). eqb n 0) c.self.inside.members.ok.0) ∙ c.if-is_empty.true))
    c.in_ok-write_mark-2.ensures.written

pub returns-else-is_empty : goal.returns-else-is_empty
returns-else-is_empty c =
    let_in_with_members c.args.self.now _ c.args.now c.args.line
    (subst (λ xs. ¬ HasStopped xs) (c.deref.ensures.value ∙ ap (λ w. w.replicas) c.self.view_is) (not_so c.has_stopped.result _ c.has_stopped.ensures c.if-has_stopped.false))
    (subst (λ xs. ¬ HasLate c.args.now xs) (c.deref-2.ensures.value ∙ ap (λ w. w.replicas) c.self.view_is) (not_so c.has_late.result _ c.has_late.ensures c.if-has_late.false))
    (subst (λ w. eqb (length w.replicas) 0 ≡ false) c.self.view_is (sym (c.is_empty.ensures ∙ ap (λ (n : ℕ). eqb n 0) c.self.inside.members.ok.0) ∙ c.if-is_empty.false))
    refl
