-- The step behind an answer.
use Rattle.am_wire.specs.declared.unknown.Unknown.TheVariants.{Drop}
use Rattle.std.proofs.Common.{◌≡◌, inl, inr, ◌∙◌, ◌<◌, ◌≤◌, ℕ, Bool, true, false, List, [], Some, None, Option, Result, Ok, Err, ap, refl, sym, subst, length}
use Rattle.std.specs.Prelude.{option_and_then, if◌then◌else◌}
use Rattle.std.specs.Str.{bytes_eq}
use Rattle.std.proofs.lemmas.List.Quantifiers.{position-Some}
use Rattle.am_gossip.specs.declared.frame.Frame.{Frame}
use Rattle.am_instance.specs.Configs.{place_named}
use Rattle.am_instance.specs.InstanceStates.{InstanceState}
use Rattle.am_instance.specs.OneStep.{IsStep}
use Rattle.am_instance.specs.Replies.{IsReply}
use Rattle.am_instance.specs.Steps.{collects}
use Rattle.am_gossip.specs.declared.refusals.StepError.{StepError}
use Rattle.am_gossip.specs.declared.refusals.StepError.TheVariants as step_errors
use Rattle.am_instance.specs.declared.event.Event.{Event}
use Rattle.am_instance.specs.declared.reply.Made.{Made}
use Rattle.am_instance.specs.declared.reply.Outcome.{Outcome}
use Rattle.am_instance.specs.declared.reply.Reply.{Reply}
use Rattle.am_runs.specs.declared.step.DeliverySource.{DeliverySource}
use Rattle.am_runs.specs.Steps.{RunStep, moment}
use Rattle.am_runs.specs.Steps.RunStep.{Started}
use Rattle.am_schedule.specs.declared.step.Action.{Action}
use Rattle.am_schedule.specs.declared.step.Action.TheVariants as actions
use Rattle.am_schedule.specs.declared.step.LineEvent.{LineEvent}
use Rattle.am_cluster.specs.declared.resolved_event.ResolvedEvent.{ResolvedEvent}
use Rattle.am_cluster.specs.declared.resolved_event.ResolvedEvent.TheVariants as asked
use Rattle.am_cluster.specs.BothStates.{StateOf, log_state, silence_state}
use Rattle.am_cluster.specs.LineEvents.{asked_by}
use Rattle.am_cluster.specs.Recorded.{event_step}
use Rattle.am_cluster.specs.Answered.{Asks, GoesOnBy, Replies, moment_of}
use Rattle.am_cluster.specs.declared.error.ClusterError.{ClusterError}
use Rattle.am_cluster.specs.declared.error.ClusterError.TheVariants as errors
use Rattle.am_cluster.specs.declared.journal.mark.Mark.{Mark}
use Rattle.am_cluster.specs.declared.journal.mark.Mark.TheVariants as marks
use Rattle.am_cluster.specs.Delivering.{IsDelivery, delivery}
use Rattle.am_cluster.specs.Doing.{IsCarriedOut, IsDone}
use Rattle.am_cluster.specs.Events.{HasHappened, IsTold}
use Rattle.am_cluster.specs.Refusals.{IsRefused, mark_of, refused_anyway}
use Rattle.am_cluster.specs.Lives.{IsStart}
use Rattle.am_cluster.specs.Steps.{IsStepped, place_in}
use Rattle.am_cluster.specs.Ties.{IsWorld}
use Rattle.am_cluster.specs.Worlds.{Replica, World, replica_at}
use Rattle.am_cluster.proofs.Places.{set_length}
use Rattle.am_cluster.proofs.Turned.{got}

-- the member of a name is there
module _ (old : World) (is : IsWorld old) (name : List ℕ) (place : ℕ) where
  by_first : (o : Option Replica) → replica_at old 0 ≡ o → option_and_then (λ replica. place_named replica.stand.config name) o ≡ Some place →
      (replica : Replica) × (replica_at old place ≡ Some replica)
  by_first None found named = absurd cc
  by_first (Some first) found named =
      let at = position-Some (λ member. bytes_eq member name) first.stand.config.members place [] named in
      got old.replicas place (subst (λ n. place < n) (is.members 0 first found).members at.0)

  pub named_there : place_in old name ≡ Some place → (replica : Replica) × (replica_at old place ≡ Some replica)
  named_there named = by_first (replica_at old 0) refl named

either_moment : {X : Type 0} (b : Bool) (now : ℕ) (one other : RunStep X) → moment one ≡ Some now → moment other ≡ Some now → moment (if b then one else other) ≡ Some now
either_moment true now one other a b = a
either_moment false now one other a b = b

-- an event is written down with its moment
pub event_moment : {K X : Type 0} (state : StateOf K X) (place now : ℕ) (source : DeliverySource) (e : Event) (answer : Result Outcome StepError) (frames : List (ℕ × Frame)) →
    moment (event_step state Drop place now source e answer frames) ≡ Some now
event_moment state place now source e (Ok outcome) frames = either_moment (collects e) now _ _ refl refl
event_moment state place now source e (Err (step_errors.Memory taken)) frames = refl
event_moment state place now source e (Err (step_errors.MomentBack last)) frames = refl
event_moment state place now source e (Err step_errors.UnknownPeer) frames = refl
event_moment state place now source e (Err (step_errors.Frame fault)) frames = refl

-- what is answered isn't refused
never_refused : (old new : World) (line : ℕ) (reply : Reply) (cause : ClusterError) (mark : Mark) → IsRefused cause mark old line (Ok reply) new → ⊥
never_refused old new line reply cause mark refused = elim refused.answer [ inl told ↦ absurd (let error = told.error in cc) | inr unmade ↦ absurd (let error = unmade.error in cc) ]

module _ (old new : World) (at line place : ℕ) (replica : Replica) (reply : Reply) where
  happened_goes : (e : Event) (source : DeliverySource) → HasHappened old place replica e source at line (Ok reply) new → GoesOnBy old new at
  happened_goes e source has = record {
    goes = record {
      members = ap (λ w. length w.replicas) has.world ∙ set_length old.replicas place _;
      silences = record {
        step = event_step silence_state Drop place at source e has.answer has.frames;
        rest = [];
        parts = ap (λ w. w.silences) has.world;
        begins = event_moment silence_state place at source e has.answer has.frames;
      };
      log = record {
        step = event_step log_state Drop place at source e has.answer has.frames;
        rest = [];
        parts = ap (λ w. w.log) has.world;
        begins = event_moment log_state place at source e has.answer has.frames;
      };
    };
    silences = refl;
    log = refl;
  }

  started_goes : IsStart old place replica at line (Ok reply) new → GoesOnBy old new at
  started_goes is = record {
    goes = record {
      members = ap (λ w. length w.replicas) is.1 ∙ set_length old.replicas place _;
      silences = record { step = Started place at; rest = []; parts = ap (λ w. w.silences) is.1; begins = refl };
      log = record { step = Started place at; rest = []; parts = ap (λ w. w.log) is.1; begins = refl };
    };
    silences = refl;
    log = refl;
  }

  does_go : (what : ResolvedEvent) → IsCarriedOut old place replica what at line (Ok reply) new → GoesOnBy old new at
  does_go (asked.Event e source) has = happened_goes e source has
  does_go asked.Start is = started_goes is
  does_go asked.NoMember never = absurd never

  by_cause : (what : ResolvedEvent) → IsDone old place replica what at line (Ok reply) new → (o : Option ClusterError) → refused_anyway replica what at ≡ o →
      IsCarriedOut old place replica what at line (Ok reply) new
  by_cause what done None none = elim (done.done none) [ inl unmade ↦ absurd (let error = unmade.error in cc) | inr does ↦ does ]
  by_cause what done (Some cause) stands = absurd (never_refused old new line reply cause (mark_of cause place at) (done.refused cause stands))

  -- what was asked of a member was carried out, where that was answered
  pub done_answered : (what : ResolvedEvent) → IsDone old place replica what at line (Ok reply) new → IsCarriedOut old place replica what at line (Ok reply) new
  done_answered what done = by_cause what done (refused_anyway replica what at) refl

module _ (old new : World) (is : IsWorld old) (at line : ℕ) (reply : Reply) where
  by_place : (name : List ℕ) (event : LineEvent) → IsStepped old (actions.Event at name event) line (Ok reply) new → (o : Option ℕ) → place_in old name ≡ o → GoesOnBy old new at
  by_place name event step None none = absurd (never_refused old new line reply errors.UnknownPeer (marks.Refused at) (step.event_of_nobody at name event refl none))
  by_place name event step (Some place) named =
      let there = named_there old is name place named in
      let what = asked_by there.0.stand.config event in
      let done = step.event at name event place there.0 refl (record { named = named; found = there.1 }) in
      does_go old new at line place there.0 reply what (done_answered old new at line place there.0 reply what done)

  by_number : (number : ℕ) → IsDelivery old number at line (Ok reply) new → GoesOnBy old new at
  by_number number (inl refused) = absurd (never_refused old new line reply errors.NoFrame (marks.Refused at) refused.1)
  by_number number (inr del) =
      let there = got old.replicas del.flight.addressee (is.flights del.flight del.there).addressee in
      let what = delivery del.flight del.index in
      does_go old new at line del.flight.addressee there.0 reply what (done_answered old new at line del.flight.addressee there.0 reply what (del.done there.0 there.1))

  pub step_goes : (action : Action) → moment_of action ≡ Some at → IsStepped old action line (Ok reply) new → GoesOnBy old new at
  step_goes (actions.Event now name event) same step =
      let at_now : now ≡ at = cc in by_place name event (subst (λ t. IsStepped old (actions.Event t name event) line (Ok reply) new) at_now step) (place_in old name) refl
  step_goes (actions.Deliver now number) same step = let at_now : now ≡ at = cc in by_number number (subst (λ t. IsDelivery old number t line (Ok reply) new) at_now (step.deliver now number refl))
  step_goes (actions.Stop name) same stepped = absurd cc
  step_goes (actions.Save name) same stepped = absurd cc
  step_goes (actions.Lose number) same stepped = absurd cc

-- the reply of an event that happened is that of the instance as it stood
reply_of : (stand after : InstanceState) (e : Event) (now : ℕ) (source : DeliverySource) (answer : Result Outcome StepError) (frames : List (ℕ × Frame)) (reply : Reply) →
    IsStep stand e now answer after → IsTold source answer frames (Ok reply) → (made : Made) × IsReply stand e now reply made × (stand.last ≤ now)
reply_of stand after e now source (Ok outcome) frames reply step told =
    (outcome.made, subst (λ r. IsReply stand e now r outcome.made) (sym told.0) step.reply, step.accepted.forward)
reply_of stand after e now source (Err (step_errors.MomentBack last)) frames reply step told = absurd told
reply_of stand after e now source (Err step_errors.UnknownPeer) frames reply step told = absurd told
reply_of stand after e now source (Err (step_errors.Frame fault)) frames reply step told = absurd told
reply_of stand after e now source (Err (step_errors.Memory taken)) frames reply step told = absurd told

-- what a line asks of a member is replied by it
pub step_replies : (old new : World) (action : Action) (now line place : ℕ) (replica : Replica) (e : Event) (reply : Reply) →
    Asks old action place replica e now → IsStepped old action line (Ok reply) new → Replies replica e now reply
step_replies old new action now line place replica e reply asks stepped =
    let done = done_answered old new now line place replica reply (asked_by replica.stand.config asks.line)
    (stepped.event now asks.name asks.line place replica asks.says (record { named = asks.named; found = asks.found })) in
    let has : HasHappened old place replica e asks.source now line (Ok reply) new = subst (λ a. IsCarriedOut old place replica a now line (Ok reply) new) asks.asked done in
    let said = reply_of replica.stand has.stand e now asks.source has.answer has.frames reply has.step has.told in
    record { runs = has.runs; past = said.2; made = said.0; is = said.1 }
