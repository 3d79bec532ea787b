-- The outcome of a request to a member, and of a delivery, in the terms of a step's record.
use Rattle.std.proofs.Common.{◌≡◌, ◌⊎◌, inl, inr, ◌∙◌, ℕ, Option, None, Result, sym, subst}
use Rattle.std.specs.Prelude.{MatchOption}
use Rattle.am_instance.specs.declared.reply.Reply.{Reply}
use Rattle.am_schedule.specs.declared.step.Action.{Action}
use Rattle.am_schedule.specs.declared.step.Action.TheVariants as actions
use Rattle.am_cluster.specs.declared.resolved_event.ResolvedEvent.{ResolvedEvent}
use Rattle.am_cluster.specs.declared.error.ClusterError.{ClusterError}
use Rattle.am_cluster.specs.Delivering.{IsDelivery}
use Rattle.am_cluster.specs.Doing.{IsCarriedOut, IsDone}
use Rattle.am_cluster.specs.Refusals.{IsRefused, IsUnmade, mark_of, refused_anyway}
use Rattle.am_cluster.specs.Steps.{IsStepped}
use Rattle.am_cluster.specs.Worlds.{Replica, World}

-- what came of what is asked of a member, by the first cause that stands
pub done_by : (old new : World) (place : ℕ) (replica : Replica) (what : ResolvedEvent) (now line : ℕ) (result : Result Reply ClusterError) (o : Option ClusterError) →
    o ≡ refused_anyway replica what now →
    MatchOption o (IsUnmade old result new ⊎ IsCarriedOut old place replica what now line result new) (λ cause. IsRefused cause (mark_of cause place now) old line result new) →
    IsDone old place replica what now line result new
done_by old new place replica what now line result o told came =
    let P : Option ClusterError → Type 0 = λ x. MatchOption x (IsUnmade old result new ⊎ IsCarriedOut old place replica what now line result new) (λ cause. IsRefused cause (mark_of cause place now) old line result new) in
    let is = subst P told came in
    record { refused = λ cause stands. subst P stands is; done = λ none. subst P none is }

-- no cause stands, and this is what was asked
pub done_as : (old new : World) (place : ℕ) (replica : Replica) (what came : ResolvedEvent) (now line : ℕ) (result : Result Reply ClusterError) →
    None ≡ refused_anyway replica what now → came ≡ what → IsUnmade old result new ⊎ IsCarriedOut old place replica came now line result new →
    IsDone old place replica what now line result new
done_as old new place replica what came now line result told same done =
    done_by old new place replica what now line result None told (subst (λ a. IsUnmade old result new ⊎ IsCarriedOut old place replica a now line result new) same done)

-- a step that delivers a frame is no other
pub deliver_stepped : (old new : World) (action : Action) (line : ℕ) (result : Result Reply ClusterError) (at number : ℕ) → action ≡ actions.Deliver at number →
    IsDelivery old number at line result new → IsStepped old action line result new
deliver_stepped old new action line result at number is done = record {
  event = λ t name event place replica same named. absurd (let e = sym is ∙ same in cc);
  event_of_nobody = λ t name event same none. absurd (let e = sym is ∙ same in cc);
  stop = λ name place replica same named. absurd (let e = sym is ∙ same in cc);
  save = λ name place replica same named. absurd (let e = sym is ∙ same in cc);
  nobody = λ name either none. elim either [ inl same ↦ absurd (let e = sym is ∙ same in cc) | inr same ↦ absurd (let e = sym is ∙ same in cc) ];
  deliver = λ t n same.
      let moment : at ≡ t = (let e = sym is ∙ same in cc) in
      let one : number ≡ n = (let e = sym is ∙ same in cc) in
      subst (λ m. IsDelivery old m t line result new) one (subst (λ m. IsDelivery old number m line result new) moment done);
  lose = λ n same. absurd (let e = sym is ∙ same in cc);
}
