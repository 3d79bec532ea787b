use Rattle.std.proofs.Common.{Err, inr, refl, sym, ap, ◌∙◌}
use Rattle.std.proofs.lemmas.Option.{slice_get_within}
use Rattle.std.proofs.lemmas.Result.{err_from_is_err_and}
use Rattle.am_cluster.proofs.Delivered.{arrives_at, delivered_event, delivered_refused, delivered_unmade, log_from, silences_from}
use Rattle.am_cluster.proofs.Refusing.{late_event}
use Rattle.am_cluster.proofs.cluster.Cluster.deliver.Goals as goal

pub refuse_at-requires-clause-late : goal.refuse_at-requires-clause-late
refuse_at-requires-clause-late c = λ last back replica found.
    late_event c.args.now _ replica c.in-Some-arrival_refusal.cause last (sym (c.arrival_refusal.ensures replica found) ∙ c.in-Some-arrival_refusal.is) back

pub returns-in-Some-arrival_refusal : goal.returns-in-Some-arrival_refusal
returns-in-Some-arrival_refusal c = inr
    (delivered_refused c.args.self.now c.args.number c.in-Some.arrival c.in-Some.ensures c.args.now c.args.line _ _ c.in-Some-arrival_refusal.cause
    (λ replica found. sym c.in-Some-arrival_refusal.is ∙ c.arrival_refusal.ensures replica found) c.refuse_at.ensures)

pub event_of-requires : goal.event_of-requires
event_of-requires c = let is = c.in-Some.ensures in slice_get_within c.args.self.now.flights c.in-Some.arrival.position is.flight is.there

pub returns-in_err-event : goal.returns-in_err-event
returns-in_err-event c =
    let p = err_from_is_err_and c.from_residual.result c.from_residual.ensures.1 in inr
    (delivered_unmade c.args.self.now c.args.number c.in-Some.arrival c.in-Some.ensures c.args.now c.args.line _ _
    (λ replica found. sym c.in_default-arrival_refusal.is ∙ c.arrival_refusal.ensures replica found) (record { error = p.1 ∙ ap Err p.2; world = refl }))

pub apply_event-requires-clause-ready : goal.apply_event-requires-clause-ready
apply_event-requires-clause-ready c =
    arrives_at c.args.self.now c.args.number c.in-Some.arrival c.in-Some.ensures c.in_ok-event.event c.in_ok-event.ensures c.args.now
    (λ replica found. sym (c.arrival_refusal.ensures replica found) ∙ c.in_default-arrival_refusal.is)

pub apply_event-requires-clause-silences : goal.apply_event-requires-clause-silences
apply_event-requires-clause-silences c = silences_from c.args.self.now c.args.number c.in-Some.arrival c.in-Some.ensures c.in_ok-event.event c.in_ok-event.ensures c.args.now

pub apply_event-requires-clause-log : goal.apply_event-requires-clause-log
apply_event-requires-clause-log c = log_from c.args.self.now c.args.number c.in-Some.arrival c.in-Some.ensures c.in_ok-event.event c.in_ok-event.ensures c.args.now

pub returns : goal.returns
returns c = inr
    (delivered_event c.args.self.now c.args.number c.in-Some.arrival c.in-Some.ensures c.args.now c.args.line _ _ c.in_ok-event.event c.in_ok-event.ensures
    (λ replica found. sym c.in_default-arrival_refusal.is ∙ c.arrival_refusal.ensures replica found) c.apply_event.ensures)
