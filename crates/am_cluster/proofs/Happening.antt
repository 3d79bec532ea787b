-- A recorded step can have happened.
use Rattle.std.proofs.Common.{◌≡◌, ⊎_elim, ℕ, ◌≤◌, List, [], ◌++◌, Bool, true, false, take, drop, ap, refl, sym, subst, ◌∙◌, append-nil, arith}
use Rattle.std.specs.Prelude.{All, Contains, Option, Some, None, Result, Ok, Err, IfOk, IsSomeAnd, if◌then◌else◌, slice_get}
use Rattle.std.proofs.Math.Seq.{take-nil}
use Rattle.std.proofs.lemmas.List.{take-append-drop}
use Rattle.std.proofs.lemmas.List.Elements.{All-nil}
use Rattle.am_wire.specs.declared.unknown.Unknown.{Unknown}
use Rattle.am_gossip.specs.declared.frame.Frame.{Frame}
use Rattle.am_merge.specs.Maps.{at}
use Rattle.am_runs.specs.declared.step.DeliverySource.{DeliverySource}
use Rattle.am_runs.specs.declared.step.DeliverySource.TheVariants.{Made, Written, Arrived, Lent}
use Rattle.am_runs.specs.Steps.{SentFrame, RunStep, flights_of}
use Rattle.am_runs.specs.Steps.RunStep.{Took, Ticked}
use Rattle.am_runs.specs.Members.{Member, map_of, member_of, passes, stepped}
use Rattle.am_runs.specs.Runs.{AreFrom, CanAct, IsPossible, IsSent, changed}
use Rattle.am_runs.proofs.Loops.{all_left}
use Rattle.am_instance.specs.declared.event.Event.{Event}
use Rattle.am_instance.specs.declared.event.Event.TheVariants as events
use Rattle.am_gossip.specs.declared.refusals.StepError.{StepError}
use Rattle.am_gossip.specs.declared.refusals.StepError.TheVariants.{MomentBack, UnknownPeer, Frame as FrameFault, Memory}
use Rattle.am_instance.specs.declared.reply.Made.{Made as MadeHere}
use Rattle.am_instance.specs.declared.reply.Reply.{Reply}
use Rattle.am_instance.specs.declared.reply.Outcome.{Outcome}
use Rattle.am_instance.specs.Changes.{changed_of}
use Rattle.am_instance.specs.Configs.{peers_but}
use Rattle.am_instance.specs.Deliveries.{Delivery, IsWhole}
use Rattle.am_instance.specs.InstanceStates.{InstanceState, HoldsWhole, entry_at, silence_at}
use Rattle.am_instance.specs.Sendings.{deltas_to, nothing_sent, sent_by}
use Rattle.am_instance.specs.Replies.{IsReply}
use Rattle.am_instance.specs.Steps.{brought, collects, counts, delivers, last_wanted, origin}
use Rattle.am_instance.specs.OneStep.{IsStep}
use Rattle.std.proofs.lemmas.List.Elements.{All-append}
use Rattle.am_cluster.specs.BothStates.{StateOf}
use Rattle.am_instance.proofs.Whole.{delivered_whole}
use Rattle.am_cluster.specs.Contents.{carries, IsValue}
use Rattle.am_cluster.specs.Recorded.{AreInFlight, AreValues, HasGoneThrough, HasSource, event_step, sent_in}
use Rattle.am_cluster.specs.StepLaws.{StepsArePossible}
use Rattle.am_cluster.proofs.States.{IsStateOf, held_at}
use Rattle.am_cluster.proofs.Going.{members_go_on}
use Rattle.am_cluster.proofs.Outgoing.{left_whole}
use Rattle.am_cluster.proofs.Making.{frame_makes_nothing, reply_now}
use Rattle.am_cluster.proofs.Sendings.{AreKnown, IfFits, all_deltas, all_picked, all_sent, changed_values, deltas_known, last_holds, pull_known, push_known}

module _ {K X : Type 0} {state : StateOf K X} (facts : IsStateOf state) (members : ℕ) (before : List (RunStep X)) (now : ℕ) where
  -- the first of versions come from where all of them do
  fewer_flown : (vs ws : List X) (flight : Option (SentFrame X)) → IsSomeAnd flight (λ f. All (Contains f.versions) (vs ++ ws)) → IsSomeAnd flight (λ f. All (Contains f.versions) vs)
  fewer_flown vs ws None all = all
  fewer_flown vs ws (Some f) all = all_left (Contains f.versions) vs ws all

  fewer_from : (source : DeliverySource) (vs ws : List X) → AreFrom state.seen state.cmp members before now source (vs ++ ws) → AreFrom state.seen state.cmp members before now source vs
  fewer_from Made vs ws from = all_left (λ v. (state.seen v).updated ≡ now) vs ws from
  fewer_from (Written sent) vs ws from = all_left (λ v. sent ≤ (state.seen v).updated) vs ws from
  fewer_from (Arrived number) vs ws from = fewer_flown vs ws (slice_get (flights_of before) number) from
  fewer_from (Lent place) vs ws from = (from.0, all_left (λ v. map_of state.seen state.cmp (member_of members place before).past (state.seen v).key ≡ Some v) vs ws from.1)

  -- what a step made
  made_from : (source : DeliverySource) (vs : List X) → source ≡ Made → All (λ v. (state.seen v).updated ≡ now) vs → AreFrom state.seen state.cmp members before now source vs
  made_from source vs is all = subst (λ s. AreFrom state.seen state.cmp members before now s vs) (sym is) all

  delivered_from : (old : InstanceState) (event : Event) (source : DeliverySource) (reply : Reply) (made : MadeHere) → HasSource state old.config.unknown members before now event source → IsReply old event now reply made →
      AreFrom state.seen state.cmp members before now source (state.versions_in (delivers old.config.unknown event made))
  delivered_from old (events.Frame sender frame) source reply made from is =
      subst (λ (ds : List Delivery). AreFrom state.seen state.cmp members before now source (state.versions_in ds)) (sym (ap (λ ds. carries old.config.unknown frame ++ ds) (frame_makes_nothing made is.1) ∙ append-nil (carries old.config.unknown frame))) from
  delivered_from old (events.Request request) source reply made from is = made_from source _ from (facts.made now made (reply_now old (events.Request request) now reply made is))
  delivered_from old (events.Notified group_key receiver firing resolved repeat) source reply made from is =
      made_from source _ from (facts.made now made (reply_now old (events.Notified group_key receiver firing resolved repeat) now reply made is))
  delivered_from old (events.Decide group_key receiver firing resolved repeat send_resolved) source reply made from is =
      made_from source _ from (facts.made now made (reply_now old (events.Decide group_key receiver firing resolved repeat send_resolved) now reply made is))
  delivered_from old (events.Mutes labels) source reply made from is = made_from source _ from (facts.made now made (reply_now old (events.Mutes labels) now reply made is))
  delivered_from old events.Show source reply made from is = made_from source _ from (facts.made now made (reply_now old events.Show now reply made is))
  delivered_from old events.Tick source reply made from is = made_from source _ from (facts.made now made (reply_now old events.Tick now reply made is))
  delivered_from old (events.PullFrom place) source reply made from is = made_from source _ from (facts.made now made (reply_now old (events.PullFrom place) now reply made is))

  -- of nothing that was brought
  nothing_from : (source : DeliverySource) (taken : ℕ) → source ≡ Made → AreFrom state.seen state.cmp members before now source (state.versions_in (take taken []))
  nothing_from source taken is =
      made_from source _ is (subst (All (λ v. (state.seen v).updated ≡ now)) (sym (ap state.versions_in (take-nil taken) ∙ facts.none)) (All-nil (λ v. (state.seen v).updated ≡ now)))

  stopped_from : (unknown : Unknown) (event : Event) (source : DeliverySource) (taken : ℕ) → HasSource state unknown members before now event source → AreFrom state.seen state.cmp members before now source (state.versions_in (take taken (brought unknown event)))
  stopped_from unknown (events.Frame sender frame) source taken from =
      let ds = carries unknown frame in
      let parts : state.versions_in ds ≡ state.versions_in (take taken ds) ++ state.versions_in (drop taken ds) = ap state.versions_in (sym (take-append-drop taken ds)) ∙ facts.append (take taken ds) (drop taken ds) in
      fewer_from source (state.versions_in (take taken ds)) (state.versions_in (drop taken ds)) (subst (λ vs. AreFrom state.seen state.cmp members before now source vs) parts from)
  stopped_from unknown (events.Request request) source taken from = nothing_from source taken from
  stopped_from unknown (events.Notified group_key receiver firing resolved repeat) source taken from = nothing_from source taken from
  stopped_from unknown (events.Decide group_key receiver firing resolved repeat send_resolved) source taken from = nothing_from source taken from
  stopped_from unknown (events.Mutes labels) source taken from = nothing_from source taken from
  stopped_from unknown events.Show source taken from = nothing_from source taken from
  stopped_from unknown events.Tick source taken from = nothing_from source taken from
  stopped_from unknown (events.PullFrom place) source taken from = nothing_from source taken from

  module _ (place : ℕ) (source : DeliverySource) (old new : InstanceState) (event : Event) (frames : List (ℕ × Frame))
      (gone : HasGoneThrough state (member_of members place before).past (state.kept old)) (from : HasSource state old.config.unknown members before now event source) (whole : HoldsWhole old) where
    abbrev member : Member X
    member = member_of members place before

    acts : member.runs ≡ true → old.last ≤ now → CanAct state.seen state.cmp members before place now
    acts runs forward =
        let last = sym gone.last ∙ facts.last old in
        record { runs = runs; forward = omega (arith, last, forward) }

    -- the frames of an event that took versions
    module _ (outcome : Outcome) (step : IsStep old event now (Ok outcome) new) (flying : AreInFlight (Ok outcome) frames) (are : AreValues old.config.unknown event outcome new) where
      abbrev ds : List Delivery
      ds = delivers old.config.unknown event outcome.made

      abbrev cs : List Delivery
      cs = changed_of now (silence_at old.silences) (entry_at old.log) ds

      same : state.versions_in cs ≡ changed state.seen state.cmp now (map_of state.seen state.cmp member.past) (state.versions_in ds)
      same =
          let held : at state.seen state.cmp (state.kept old).held ≡ map_of state.seen state.cmp member.past = (λ i key. gone.map key i) in
          facts.changes now old ds ∙ ap (λ held. changed state.seen state.cmp now held (state.versions_in ds)) held

      abbrev IsHeld : X → Type 0
      IsHeld v = map_of state.seen state.cmp (member.past ++ passes now (state.versions_in ds)) (state.seen v).key ≡ Some v

      module _ (goes : HasGoneThrough state (member.past ++ passes now (state.versions_in ds)) (state.kept new)) where
        all_held : All IsHeld (state.kept new).held
        all_held k v within = sym (goes.map _) ∙ held_at facts new are.maps k v within

        abbrev IsFine : ℕ × Frame → Type 0
        IsFine = AreKnown facts old.config.unknown IsHeld cs (changed state.seen state.cmp now (map_of state.seen state.cmp member.past) (state.versions_in ds)) same

        fine_frames : All IsFine outcome.frames.items
        fine_frames =
            let left = left_whole old new step.config (step.kept whole) in
            all_sent IsFine _ nothing_sent (sent_by outcome)
            (All-append (IfFits IsFine) (deltas_to (peers_but old.config (origin old.config event)) cs) (last_wanted event new)
            (all_deltas IsFine (peers_but old.config (origin old.config event)) cs
            (deltas_known facts old.config.unknown IsHeld cs _ same (changed_values IsValue now (silence_at old.silences) (entry_at old.log) ds are.delivered)
            (changed_values (IsWhole old.config.unknown) now (silence_at old.silences) (entry_at old.log) ds (delivered_whole old.config.unknown old event now outcome.reply outcome.made whole.silences step.reply))))
            (last_holds IsFine event new
            (pull_known facts old.config.unknown IsHeld cs _ same new (state.kept new).held (facts.parted new) all_held are.silences are.log left.0 left.1)
            (push_known facts old.config.unknown IsHeld cs _ same new (state.kept new).held (facts.parted new) all_held are.silences are.log left.0 left.1)))
            (All-nil IsFine) step.sent

        in_flight : All IsFine frames
        in_flight = ⊎_elim (λ is. subst (All IsFine) (sym is) fine_frames) (λ is. subst (All IsFine) (sym is) (All-nil IsFine)) flying

        all_are_sent : All (IsSent state.seen state.cmp members before place now (state.versions_in ds)) (sent_in state old.config.unknown frames)
        all_are_sent = all_picked state old.config.unknown (IsSent state.seen state.cmp members before place now (state.versions_in ds)) frames in_flight

      answered : (collecting : Bool) → member.runs ≡ true →
          HasGoneThrough state (stepped member (if collecting then Ticked place now else Took place now source (state.versions_in ds) (sent_in state old.config.unknown frames))).past (state.kept new) →
          IsPossible state.seen state.cmp members before (if collecting then Ticked place now else Took place now source (state.versions_in ds) (sent_in state old.config.unknown frames))
      answered true runs goes = acts runs step.accepted.forward
      answered false runs goes = record {
        acts = acts runs step.accepted.forward;
        from = delivered_from old event source outcome.reply outcome.made from step.reply;
        sent = all_are_sent goes;
      }

    possible : (answer : Result Outcome StepError) → (counts answer ≡ true → member.runs ≡ true) → IsStep old event now answer new → AreInFlight answer frames →
        IfOk answer (λ outcome. AreValues old.config.unknown event outcome new) → IsPossible state.seen state.cmp members before (event_step state old.config.unknown place now source event answer frames)
    possible (Ok outcome) runs step flying are =
        answered outcome step flying are (collects event) (runs refl)
        (members_go_on facts member place now source old new event (Ok outcome) frames gone step)
    possible (Err (Memory taken)) runs step flying are = record {
      acts = acts (runs refl) step.refused.0;
      from = stopped_from old.config.unknown event source taken from;
      sent = All-nil (IsSent state.seen state.cmp members before place now (state.versions_in (take taken (brought old.config.unknown event))));
    }
    possible (Err (MomentBack last)) runs step flying are =
        let same = sym gone.last ∙ facts.last old in
        let back = step.refused.1 in
        omega (arith, same, back)
    possible (Err UnknownPeer) runs step flying are = tt
    possible (Err (FrameFault fault)) runs step flying are = tt

pub steps_are_possible : {K X : Type 0} {state : StateOf K X} → IsStateOf state → StepsArePossible state
steps_are_possible facts = λ members place now before source old new event answer frames runs gone step from whole flying are.
    possible facts members before now place source old new event frames gone from whole answer runs step flying are
