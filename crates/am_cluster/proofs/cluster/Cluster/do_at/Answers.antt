use Rattle.std.proofs.Common.{◌≡◌, Err, Some, inl, inr, refl, sym, ap, ◌∙◌, subst, length}
use Rattle.std.proofs.lemmas.Result.{err_from_is_err_and}
use Rattle.std.specs.Prelude.{None}
use Rattle.am_cluster.specs.LineEvents.{IsSound}
use Rattle.am_cluster.specs.Refusals.{refused_anyway}
use Rattle.am_cluster.specs.Steps.{Fits}
use Rattle.am_cluster.proofs.Refusing.{can_begin, can_have, late_cause, stranger_refused}
use Rattle.am_cluster.proofs.Stepping.{done_as, done_by}
use Rattle.am_cluster.proofs.cluster.Cluster.do_at.Goals as goal

pub refuse_at-requires-clause-late : goal.refuse_at-requires-clause-late
refuse_at-requires-clause-late c = λ last back replica found.
    late_cause c.args.now replica _ c.in-Some.cause last (sym (c.line_refusal.ensures replica found) ∙ c.in-Some.is) back

pub apply_event-requires-clause-ready : goal.apply_event-requires-clause-ready
apply_event-requires-clause-ready c = λ replica found.
    let none = subst (λ what. refused_anyway replica what c.args.now ≡ None) (sym (c.in_ok-event.ensures.asked replica found) ∙ c.in-Event.is) (sym (c.line_refusal.ensures replica found) ∙ c.in_default.is) in
    can_have c.args.now replica c.in-Event.event (subst IsSound c.in-Event.is c.in_ok-event.ensures.sound replica.stand.config c.args.now) none

pub apply_event-requires-clause-silences : goal.apply_event-requires-clause-silences
apply_event-requires-clause-silences c = (subst Fits c.in-Event.is c.in_ok-event.ensures.fits (length c.args.self.now.replicas) c.args.now).0 c.args.self.now.silences

pub apply_event-requires-clause-log : goal.apply_event-requires-clause-log
apply_event-requires-clause-log c = (subst Fits c.in-Event.is c.in_ok-event.ensures.fits (length c.args.self.now.replicas) c.args.now).1 c.args.self.now.log

pub start_at-requires-clause-ready : goal.start_at-requires-clause-ready
start_at-requires-clause-ready c = λ replica found.
    can_begin c.args.now replica (subst (λ what. refused_anyway replica what c.args.now ≡ None) (sym (c.in_ok-event.ensures.asked replica found) ∙ c.in-Start.is) (sym (c.line_refusal.ensures replica found) ∙ c.in_default.is))

pub returns-in-Some : goal.returns-in-Some
returns-in-Some c = λ replica found.
    done_by c.args.self.now _ c.args.place replica _ c.args.now c.args.line _ (Some c.in-Some.cause) (sym c.in-Some.is ∙ c.line_refusal.ensures replica found) c.refuse_at.ensures

pub returns-in_err-event : goal.returns-in_err-event
returns-in_err-event c = λ replica found.
    let p = err_from_is_err_and c.from_residual.result c.from_residual.ensures.1 in
    done_by c.args.self.now _ c.args.place replica _ c.args.now c.args.line _ None (sym c.in_default.is ∙ c.line_refusal.ensures replica found) (inl (record { error = p.1 ∙ ap Err p.2; world = refl }))

pub returns-in-Event : goal.returns-in-Event
returns-in-Event c = λ replica found.
    done_as c.args.self.now _ c.args.place replica _ _ c.args.now c.args.line _ (sym c.in_default.is ∙ c.line_refusal.ensures replica found)
    (sym c.in-Event.is ∙ c.in_ok-event.ensures.asked replica found) (c.apply_event.ensures replica found)

pub returns-in-Start : goal.returns-in-Start
returns-in-Start c = λ replica found.
    done_as c.args.self.now _ c.args.place replica _ _ c.args.now c.args.line _ (sym c.in_default.is ∙ c.line_refusal.ensures replica found)
    (sym c.in-Start.is ∙ c.in_ok-event.ensures.asked replica found) (inr (c.start_at.ensures replica found))

pub returns-in-NoMember : goal.returns-in-NoMember
returns-in-NoMember c = λ replica found.
    absurd (stranger_refused c.args.now replica
    (subst (λ what. refused_anyway replica what c.args.now ≡ None) (sym (c.in_ok-event.ensures.asked replica found) ∙ c.in-NoMember.is) (sym (c.line_refusal.ensures replica found) ∙ c.in_default.is)))
