-- A past goes on with a recorded step as the map goes on with the step.
use Rattle.std.proofs.Common.{◌≡◌, ◌≢◌, ℕ, List, [], ◌∷◌, ◌++◌, Bool, true, false, ap, refl, sym, subst, ◌∙◌, append-nil}
use Rattle.std.specs.Prelude.{take, Result, Ok, Err, if◌then◌else◌, ◌==◌}
use Rattle.std.proofs.lemmas.Bool.{eq-eqb, ne_eqb}
use Rattle.am_wire.specs.declared.unknown.Unknown.{Unknown}
use Rattle.am_gossip.specs.declared.frame.Frame.{Frame}
use Rattle.am_merge.specs.Maps.{at}
use Rattle.am_collect.specs.Kept.{Kept}
use Rattle.am_collect.specs.Events.{Events, after_all, last_moment}
use Rattle.am_collect.specs.Events.MapEvent.{Collected}
use Rattle.am_collect.specs.Keepers.{IsLeftBy}
use Rattle.am_collect.proofs.Histories.{last_moment-append}
use Rattle.am_runs.specs.declared.step.DeliverySource.{DeliverySource}
use Rattle.am_runs.specs.Steps.RunStep.{Took, Ticked}
use Rattle.am_runs.specs.Members.{Member, map_of, member_after, member_of, passes, stepped}
use Rattle.am_runs.proofs.Pasts.{last-passes, map_of-append, member_of-push}
use Rattle.am_instance.specs.declared.event.Event.{Event}
use Rattle.am_gossip.specs.declared.refusals.StepError.{StepError}
use Rattle.am_gossip.specs.declared.refusals.StepError.TheVariants.{MomentBack, UnknownPeer, Frame as FrameFault, Memory}
use Rattle.am_instance.specs.declared.reply.Outcome.{Outcome}
use Rattle.am_instance.specs.Deliveries.{Delivery, events_at}
use Rattle.am_instance.specs.Steps.{brought, collects, delivers, step_events}
use Rattle.am_cluster.specs.BothStates.{StateOf}
use Rattle.am_cluster.specs.Recorded.{HasGoneThrough, event_step, sent_in}
use Rattle.am_cluster.specs.StepLaws.{MembersGoOn, OthersStay, OwnMemberChanges}
use Rattle.am_cluster.proofs.States.{IsStateOf, last_arrivals}

module _ {K X : Type 0} {state : StateOf K X} (facts : IsStateOf state) where
  -- events after a past
  goes_on : (past events : Events X) (old new : Kept X) → HasGoneThrough state past old → IsLeftBy state.seen state.cmp old events new → HasGoneThrough state (past ++ events) new
  goes_on past events old new gone left =
      let same : at state.seen state.cmp old.held ≡ map_of state.seen state.cmp past = (λ i key. gone.map key i) in
      record {
        map = λ key.
            left.map key ∙ ap (λ held. after_all state.seen state.cmp held events key) same
            ∙ sym (ap (λ held. held key) (map_of-append state.seen state.cmp past events));
        last = left.last ∙ ap (λ moment. last_moment moment events) gone.last ∙ sym (last_moment-append 0 past events);
      }

  -- the same versions, with those of the other state among them or without them
  passes_alike : (past : Events X) (now : ℕ) (ds : List Delivery) (new : Kept X) → HasGoneThrough state (past ++ events_at state.event_of now ds) new →
      HasGoneThrough state (past ++ passes now (state.versions_in ds)) new
  passes_alike past now ds new gone = record {
    map = λ key.
        gone.map key
        ∙ ap (λ held. held key) (map_of-append state.seen state.cmp past (events_at state.event_of now ds) ∙ facts.lift now (map_of state.seen state.cmp past) ds
        ∙ sym (map_of-append state.seen state.cmp past (passes now (state.versions_in ds))));
    last = gone.last ∙ last_moment-append 0 past (events_at state.event_of now ds) ∙ last_arrivals state.event_of now ds ∙ sym (last-passes past now (state.versions_in ds));
  }

  -- after nothing
  stays : (past : Events X) (new : Kept X) → HasGoneThrough state (past ++ []) new → HasGoneThrough state past new
  stays past new gone = subst (λ events. HasGoneThrough state events new) (append-nil past) gone

  module _ (unknown : Unknown) (m : Member X) (place now : ℕ) (source : DeliverySource) (event : Event) (frames : List (ℕ × Frame)) (new : Kept X) where
    by_collecting : (collecting : Bool) (ds : List Delivery) →
        HasGoneThrough state (m.past ++ (if collecting then (Collected, now) ∷ [] else events_at state.event_of now ds)) new →
        HasGoneThrough state (stepped m (if collecting then Ticked place now else Took place now source (state.versions_in ds) (sent_in state unknown frames))).past new
    by_collecting true ds gone = gone
    by_collecting false ds gone = passes_alike m.past now ds new gone

    by_answer : (answer : Result Outcome StepError) → HasGoneThrough state (m.past ++ step_events state.event_of unknown event now answer) new →
        HasGoneThrough state (stepped m (event_step state unknown place now source event answer frames)).past new
    by_answer (Ok outcome) gone = by_collecting (collects event) (delivers unknown event outcome.made) gone
    by_answer (Err (Memory taken)) gone = passes_alike m.past now (take taken (brought unknown event)) new gone
    by_answer (Err (MomentBack last)) gone = stays m.past new gone
    by_answer (Err UnknownPeer) gone = stays m.past new gone
    by_answer (Err (FrameFault fault)) gone = stays m.past new gone

  pub members_go_on : MembersGoOn state
  members_go_on = λ m place now source old new event answer frames gone step.
      by_answer old.config.unknown m place now source event frames (state.kept new) answer
      (goes_on m.past (step_events state.event_of old.config.unknown event now answer) (state.kept old) (state.kept new) gone (facts.left old new event now answer step))

-- ---- the member of the step, and the others
module _ {K X : Type 0} (state : StateOf K X) (unknown : Unknown) (place now : ℕ) (source : DeliverySource) (event : Event) (frames : List (ℕ × Frame)) where
  itself : (n : ℕ) → (n == n) ≡ true
  itself n = eq-eqb n n refl

  apart : (m n : ℕ) → m ≢ n → (m == n) ≡ false
  apart m n other = ne_eqb m n other

  if_true : {A : Type 0} (test : Bool) (x y : A) → test ≡ true → (if test then x else y) ≡ x
  if_true test x y holds = ap (λ b. if b then x else y) holds

  if_false : {A : Type 0} (test : Bool) (x y : A) → test ≡ false → (if test then x else y) ≡ y
  if_false test x y fails = ap (λ b. if b then x else y) fails

  own_by : (m : Member X) (collecting : Bool) (vs : List X) →
      let step = if collecting then Ticked place now else Took place now source vs (sent_in state unknown frames) in member_after place m step ≡ stepped m step
  own_by m true vs = if_true (place == place) _ m (itself place)
  own_by m false vs = if_true (place == place) _ m (itself place)

  own_member : (m : Member X) (answer : Result Outcome StepError) → member_after place m (event_step state unknown place now source event answer frames) ≡ stepped m (event_step state unknown place now source event answer frames)
  own_member m (Ok outcome) = own_by m (collects event) (state.versions_in (delivers unknown event outcome.made))
  own_member m (Err (Memory taken)) = if_true (place == place) _ m (itself place)
  own_member m (Err (MomentBack last)) = if_true (place == place) _ m (itself place)
  own_member m (Err UnknownPeer) = refl
  own_member m (Err (FrameFault fault)) = refl

  other_by : (q : ℕ) (m : Member X) → place ≢ q → (collecting : Bool) (vs : List X) → member_after q m (if collecting then Ticked place now else Took place now source vs (sent_in state unknown frames)) ≡ m
  other_by q m other true vs = if_false (place == q) _ m (apart place q other)
  other_by q m other false vs = if_false (place == q) _ m (apart place q other)

  other_member : (q : ℕ) (m : Member X) (answer : Result Outcome StepError) → place ≢ q → member_after q m (event_step state unknown place now source event answer frames) ≡ m
  other_member q m (Ok outcome) other = other_by q m other (collects event) (state.versions_in (delivers unknown event outcome.made))
  other_member q m (Err (Memory taken)) other = if_false (place == q) _ m (apart place q other)
  other_member q m (Err (MomentBack last)) other = if_false (place == q) _ m (apart place q other)
  other_member q m (Err UnknownPeer) other = refl
  other_member q m (Err (FrameFault fault)) other = refl

pub own_member_changes : {K X : Type 0} (state : StateOf K X) → OwnMemberChanges state
own_member_changes state = λ unknown members place now source before event answer frames.
    member_of-push members place before (event_step state unknown place now source event answer frames)
    ∙ own_member state unknown place now source event frames (member_of members place before) answer

pub others_stay : {K X : Type 0} (state : StateOf K X) → OthersStay state
others_stay state = λ unknown members place other now source before event answer frames apart.
    member_of-push members other before (event_step state unknown place now source event answer frames)
    ∙ other_member state unknown place now source event frames other (member_of members other before) answer apart
