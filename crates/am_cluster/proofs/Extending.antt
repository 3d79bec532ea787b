-- Every step and every settle extends both runs by steps of its moment, in its line, or leaves them as they are.
use Rattle.am_wire.specs.declared.unknown.Unknown.TheVariants.{Drop}
use Rattle.std.proofs.Common.{◌≡◌, inl, inr, ◌+◌, ◌∙◌, ℕ, List, [], ◌∷◌, ◌++◌, Option, Some, None, Result, Ok, Err, refl, sym, ap, length, map, append-nil, append_assoc, length-append}
use Rattle.std.specs.Prelude.{All}
use Rattle.std.proofs.lemmas.List.{length-map, map-append}
use Rattle.std.proofs.lemmas.List.Elements.{All-append, All-cons, All-nil}
use Rattle.am_silence.specs.Mesh.{Mesh}
use Rattle.am_nflog.specs.Mesh.{Mesh as LogMesh}
use Rattle.am_instance.specs.declared.event.Event.{Event}
use Rattle.am_instance.specs.declared.event.Event.TheVariants as events
use Rattle.am_instance.specs.declared.reply.Reply.{Reply}
use Rattle.am_runs.specs.declared.step.DeliverySource.{DeliverySource}
use Rattle.am_runs.specs.declared.step.DeliverySource.TheVariants.{Lent, Made}
use Rattle.am_runs.specs.Steps.{RunStep, moment}
use Rattle.am_runs.specs.Steps.RunStep.{Back, Refused, Saved, Started, Stopped}
use Rattle.am_schedule.specs.declared.step.Action.{Action}
use Rattle.am_schedule.specs.declared.step.Action.TheVariants as actions
use Rattle.am_schedule.specs.declared.step.LineEvent.{LineEvent}
use Rattle.am_cluster.specs.BothStates.{log_state, silence_state}
use Rattle.am_cluster.specs.declared.resolved_event.ResolvedEvent.{ResolvedEvent}
use Rattle.am_cluster.specs.declared.resolved_event.ResolvedEvent.TheVariants as asked
use Rattle.am_cluster.specs.LineEvents.{asked_by}
use Rattle.am_cluster.specs.Recorded.{event_step}
use Rattle.am_cluster.specs.Answered.{moment_of}
use Rattle.am_cluster.specs.declared.error.ClusterError.{ClusterError}
use Rattle.am_cluster.specs.declared.error.ClusterError.TheVariants as errors
use Rattle.am_cluster.specs.declared.error.SettleError.{SettleError}
use Rattle.am_cluster.specs.declared.error.SettleError.TheVariants as settle_errors
use Rattle.am_cluster.specs.declared.journal.mark.Mark.{Mark}
use Rattle.am_cluster.specs.declared.journal.mark.Mark.TheVariants as marks
use Rattle.am_cluster.specs.Delivering.{IsDelivery, delivery}
use Rattle.am_cluster.specs.Doing.{IsCarriedOut, IsDone}
use Rattle.am_cluster.specs.Events.{HasHappened}
use Rattle.am_cluster.specs.Lives.{IsSave, IsStart, IsStop}
use Rattle.am_cluster.specs.Losing.{IsLoss}
use Rattle.am_cluster.specs.Marks.{step_of_mark}
use Rattle.am_cluster.specs.Refusals.{IsRefused, mark_of, refused_anyway}
use Rattle.am_cluster.specs.Replicas.{Extends}
use Rattle.am_cluster.specs.Settling.{AreCutShort, AreTurnsMade, IsSettle, IsStopped, IsTurn, Turn, begun, late_places, loan}
use Rattle.am_cluster.specs.Settling.Turn.{Collects, Takes}
use Rattle.am_cluster.specs.Steps.{IsStepped, place_in}
use Rattle.am_cluster.specs.Ties.{IsWorld}
use Rattle.am_cluster.specs.Worlds.{Replica, World}
use Rattle.am_cluster.proofs.Answered.{event_moment, named_there}
use Rattle.am_cluster.proofs.Places.{set_length}
use Rattle.am_cluster.proofs.Turned.{got}

module _ (now : Option ℕ) (line : ℕ) where
  -- nothing more is written down
  pub by_nothing : (old new : World) → length new.replicas ≡ length old.replicas → new.silences ≡ old.silences → new.log ≡ old.log → new.lines ≡ old.lines → Extends old new now line
  by_nothing old new members silences log lines = record {
    members = members;
    silences = record { more = []; parts = silences ∙ sym (append-nil old.silences); moments = All-nil (λ step. moment step ≡ now) };
    log = record { more = []; parts = log ∙ sym (append-nil old.log); moments = All-nil (λ step. moment step ≡ now) };
    alike = refl;
    lines = lines ∙ sym (append-nil old.lines);
  }

  pub unchanged : (old new : World) → new ≡ old → Extends old new now line
  unchanged old new same = by_nothing old new (ap (λ w. length w.replicas) same) (ap (λ w. w.silences) same) (ap (λ w. w.log) same) (ap (λ w. w.lines) same)

  -- one step more is
  pub by_one : (old new : World) (s : RunStep Mesh) (l : RunStep LogMesh) → length new.replicas ≡ length old.replicas → new.silences ≡ old.silences ++ s ∷ [] → new.log ≡ old.log ++ l ∷ [] →
      new.lines ≡ old.lines ++ line ∷ [] → moment s ≡ now → moment l ≡ now → Extends old new now line
  by_one old new s l members silences log lines at_s at_l = record {
    members = members;
    silences = record { more = s ∷ []; parts = silences; moments = All-cons (λ step. moment step ≡ now) s [] at_s (All-nil (λ step. moment step ≡ now)) };
    log = record { more = l ∷ []; parts = log; moments = All-cons (λ step. moment step ≡ now) l [] at_l (All-nil (λ step. moment step ≡ now)) };
    alike = refl;
    lines = lines;
  }

  pub goes_further : (a b c : World) → Extends a b now line → Extends b c now line → Extends a c now line
  goes_further a b c one two = record {
    members = two.members ∙ one.members;
    silences = record {
      more = one.silences.more ++ two.silences.more;
      parts = two.silences.parts ∙ (ap (λ ss. ss ++ two.silences.more) one.silences.parts ∙ append_assoc a.silences one.silences.more two.silences.more);
      moments = All-append (λ step. moment step ≡ now) one.silences.more two.silences.more one.silences.moments two.silences.moments;
    };
    log = record {
      more = one.log.more ++ two.log.more;
      parts = two.log.parts ∙ (ap (λ ls. ls ++ two.log.more) one.log.parts ∙ append_assoc a.log one.log.more two.log.more);
      moments = All-append (λ step. moment step ≡ now) one.log.more two.log.more one.log.moments two.log.moments;
    };
    alike = length-append one.silences.more two.silences.more
        ∙ (ap (λ n. n + length two.silences.more) one.alike ∙ (ap (λ n. length one.log.more + n) two.alike ∙ sym (length-append one.log.more two.log.more)));
    lines = two.lines ∙ (ap (λ ns. ns ++ map (λ step. line) two.silences.more) one.lines
        ∙ (append_assoc a.lines (map (λ step. line) one.silences.more) (map (λ step. line) two.silences.more)
        ∙ ap (λ ns. a.lines ++ ns) (sym (map-append (λ step. line) one.silences.more two.silences.more))));
  }

  pub refused_extends : {A : Type 0} (old new : World) (cause : ClusterError) (mark : Mark) (result : Result A ClusterError) → moment {X = Mesh} (step_of_mark mark) ≡ now → moment {X = LogMesh} (step_of_mark mark) ≡ now →
      IsRefused cause mark old line result new → Extends old new now line
  refused_extends old new cause mark result at_s at_l refused = elim refused.answer [
    | inl told ↦ by_one old new (step_of_mark mark) (step_of_mark mark) (ap (λ w. length w.replicas) told.world) (ap (λ w. w.silences) told.world) (ap (λ w. w.log) told.world) (ap (λ w. w.lines) told.world) at_s at_l
    | inr unmade ↦ unchanged old new unmade.world
  ]

-- a refusal at a member is written down with its moment
mark_moment : (X : Type 0) (cause : ClusterError) (place now : ℕ) → moment {X = X} (step_of_mark (mark_of cause place now)) ≡ Some now
mark_moment X errors.NoFrame place now = refl
mark_moment X errors.Running place now = refl
mark_moment X errors.Stopped place now = refl
mark_moment X (errors.MomentBack last) place now = refl
mark_moment X errors.UnknownPeer place now = refl
mark_moment X errors.Memory place now = refl

module _ (old new : World) (at line place : ℕ) (replica : Replica) (result : Result Reply ClusterError) where
  pub happened_extends : (e : Event) (source : DeliverySource) → HasHappened old place replica e source at line result new → Extends old new (Some at) line
  happened_extends e source h = by_one (Some at) line old new (event_step silence_state Drop place at source e h.answer h.frames) (event_step log_state Drop place at source e h.answer h.frames)
      (ap (λ w. length w.replicas) h.world ∙ set_length old.replicas place _) (ap (λ w. w.silences) h.world) (ap (λ w. w.log) h.world) (ap (λ w. w.lines) h.world)
      (event_moment silence_state place at source e h.answer h.frames) (event_moment log_state place at source e h.answer h.frames)

  started_extends : (done : Result Reply ClusterError) → IsStart old place replica at line done new → Extends old new (Some at) line
  started_extends (Ok reply) is = by_one (Some at) line old new (Started place at) (Started place at) (ap (λ w. length w.replicas) is.1 ∙ set_length old.replicas place _) (ap (λ w. w.silences) is.1) (ap (λ w. w.log) is.1) (ap (λ w. w.lines) is.1) refl refl
  started_extends (Err errors.Memory) is = unchanged (Some at) line old new is
  started_extends (Err errors.NoFrame) is = absurd is
  started_extends (Err errors.Running) is = absurd is
  started_extends (Err errors.Stopped) is = absurd is
  started_extends (Err (errors.MomentBack last)) is = absurd is
  started_extends (Err errors.UnknownPeer) is = absurd is

  carried_extends : (what : ResolvedEvent) → IsCarriedOut old place replica what at line result new → Extends old new (Some at) line
  carried_extends (asked.Event e source) has = happened_extends e source has
  carried_extends asked.Start is = started_extends result is
  carried_extends asked.NoMember never = absurd never

  by_cause : (what : ResolvedEvent) → IsDone old place replica what at line result new → (o : Option ClusterError) → refused_anyway replica what at ≡ o → Extends old new (Some at) line
  by_cause what done None none = elim (done.done none) [ inl unmade ↦ unchanged (Some at) line old new unmade.world | inr does ↦ carried_extends what does ]
  by_cause what done (Some cause) stands =
      refused_extends (Some at) line old new cause (mark_of cause place at) result (mark_moment Mesh cause place at) (mark_moment LogMesh cause place at) (done.refused cause stands)

  pub done_extends : (what : ResolvedEvent) → IsDone old place replica what at line result new → Extends old new (Some at) line
  done_extends what done = by_cause what done (refused_anyway replica what at) refl

module _ (old new : World) (line place : ℕ) (replica : Replica) where
  saved_extends : (done : Result Reply ClusterError) → IsSave old place replica line done new → Extends old new None line
  saved_extends (Ok reply) is = by_one None line old new (Saved place) (Saved place) (ap (λ w. length w.replicas) is.2 ∙ set_length old.replicas place _) (ap (λ w. w.silences) is.2) (ap (λ w. w.log) is.2) (ap (λ w. w.lines) is.2) refl refl
  saved_extends (Err errors.Stopped) is = unchanged None line old new is.1
  saved_extends (Err errors.Memory) is = unchanged None line old new is.1
  saved_extends (Err errors.NoFrame) is = absurd is
  saved_extends (Err errors.Running) is = absurd is
  saved_extends (Err (errors.MomentBack last)) is = absurd is
  saved_extends (Err errors.UnknownPeer) is = absurd is

  stopped_extends : (done : Result Reply ClusterError) → IsStop old place replica line done new → Extends old new None line
  stopped_extends (Ok reply) is = by_one None line old new (Stopped place) (Stopped place) (ap (λ w. length w.replicas) is.2 ∙ set_length old.replicas place _) (ap (λ w. w.silences) is.2) (ap (λ w. w.log) is.2) (ap (λ w. w.lines) is.2) refl refl
  stopped_extends (Err errors.Stopped) is = unchanged None line old new is.1
  stopped_extends (Err errors.Memory) is = unchanged None line old new is.2
  stopped_extends (Err errors.NoFrame) is = absurd is
  stopped_extends (Err errors.Running) is = absurd is
  stopped_extends (Err (errors.MomentBack last)) is = absurd is
  stopped_extends (Err errors.UnknownPeer) is = absurd is

module _ (old new : World) (line number : ℕ) where
  lost_extends : (done : Result Reply ClusterError) → IsLoss old number done new → Extends old new None line
  lost_extends (Ok reply) is = let lost = is.1 in by_nothing None line old new (ap (λ w. length w.replicas) lost.world) (ap (λ w. w.silences) lost.world) (ap (λ w. w.log) lost.world) (ap (λ w. w.lines) lost.world)
  lost_extends (Err errors.NoFrame) is = unchanged None line old new is.1
  lost_extends (Err errors.Running) is = absurd is
  lost_extends (Err errors.Stopped) is = absurd is
  lost_extends (Err (errors.MomentBack last)) is = absurd is
  lost_extends (Err errors.UnknownPeer) is = absurd is
  lost_extends (Err errors.Memory) is = absurd is

module _ (old new : World) (is : IsWorld old) (line : ℕ) (result : Result Reply ClusterError) where
  by_event : (at : ℕ) (name : List ℕ) (event : LineEvent) → IsStepped old (actions.Event at name event) line result new → (o : Option ℕ) → place_in old name ≡ o → Extends old new (Some at) line
  by_event at name event step None none = refused_extends (Some at) line old new errors.UnknownPeer (marks.Refused at) result refl refl (step.event_of_nobody at name event refl none)
  by_event at name event step (Some place) named =
      let there = named_there old is name place named in
      done_extends old new at line place there.0 result (asked_by there.0.stand.config event) (step.event at name event place there.0 refl (record { named = named; found = there.1 }))

  by_stop : (name : List ℕ) → IsStepped old (actions.Stop name) line result new → (o : Option ℕ) → place_in old name ≡ o → Extends old new None line
  by_stop name step None none = unchanged None line old new (step.nobody name (inl refl) none).1
  by_stop name step (Some place) named =
      let there = named_there old is name place named in
      stopped_extends old new line place there.0 result (step.stop name place there.0 refl (record { named = named; found = there.1 }))

  by_save : (name : List ℕ) → IsStepped old (actions.Save name) line result new → (o : Option ℕ) → place_in old name ≡ o → Extends old new None line
  by_save name step None none = unchanged None line old new (step.nobody name (inr refl) none).1
  by_save name step (Some place) named =
      let there = named_there old is name place named in
      saved_extends old new line place there.0 result (step.save name place there.0 refl (record { named = named; found = there.1 }))

  by_number : (at number : ℕ) → IsDelivery old number at line result new → Extends old new (Some at) line
  by_number at number (inl refused) = refused_extends (Some at) line old new errors.NoFrame (marks.Refused at) result refl refl refused.1
  by_number at number (inr del) =
      let there = got old.replicas del.flight.addressee (is.flights del.flight del.there).addressee in
      done_extends old new at line del.flight.addressee there.0 result (delivery del.flight del.index) (del.done there.0 there.1)

  pub step_extends : (action : Action) → IsStepped old action line result new → Extends old new (moment_of action) line
  step_extends (actions.Event at name event) step = by_event at name event step (place_in old name) refl
  step_extends (actions.Deliver at number) step = by_number at number (step.deliver at number refl)
  step_extends (actions.Stop name) step = by_stop name step (place_in old name) refl
  step_extends (actions.Save name) step = by_save name step (place_in old name) refl
  step_extends (actions.Lose number) step = lost_extends old new line number result (step.lose number refl)

-- ---- settles

module _ (now line : ℕ) where
  turn_extends : (old new : World) (turn : Turn) (result : Result Reply ClusterError) → IsTurn old turn now line result new → Extends old new (Some now) line
  turn_extends old new (Collects place) result turn = happened_extends old new now line place turn.0 result events.Tick Made turn.2
  turn_extends old new (Takes borrower lender) result turn = happened_extends old new now line borrower turn.0 result (loan lender turn.1.stand) (Lent lender) turn.5

  turns_extend : (old new : World) (turns : List Turn) → AreTurnsMade old turns now line new → Extends old new (Some now) line
  turns_extend old new [] made = unchanged (Some now) line old new made
  turns_extend old new (turn ∷ turns) made = goes_further (Some now) line old made.0 new (turn_extends old made.0 turn (Ok made.1.0) made.1.1) (turns_extend made.0 new turns made.2)

  stopped_turn : (old new : World) (turn : Turn) → IsStopped old turn now line new → Extends old new (Some now) line
  stopped_turn old new turn (inl same) = unchanged (Some now) line old new same
  stopped_turn old new turn (inr made) = turn_extends old new turn (Err errors.Memory) made

  cut_extends : (old new : World) (turns : List Turn) → AreCutShort old turns now line new → Extends old new (Some now) line
  cut_extends old new turns cut = goes_further (Some now) line old cut.between new (turns_extend old cut.between cut.made cut.first) (stopped_turn cut.between new cut.turn cut.stopped)

  begun_extends : (rs : List Replica) (w : World) → Extends w (begun rs w now line) (Some now) line
  begun_extends [] w = by_one (Some now) line w (begun [] w now line) (Refused now) (Refused now) refl refl refl refl refl refl
  begun_extends (r ∷ rs) w = unchanged (Some now) line w w refl

  backs_at : {X : Type 0} (places : List ℕ) → All (λ (step : RunStep X). moment step ≡ Some now) (map (λ place. Back place now) places)
  backs_at [] = All-nil (λ step. moment step ≡ Some now)
  backs_at (place ∷ places) = All-cons (λ step. moment step ≡ Some now) (Back place now) (map (λ p. Back p now) places) refl (backs_at places)

  one_line : (places : List ℕ) → map (λ place. line) places ≡ map (λ (step : RunStep Mesh). line) (map (λ place. Back place now) places)
  one_line [] = refl
  one_line (place ∷ places) = ap (λ ns. line ∷ ns) (one_line places)

  pub settle_extends : (old new : World) (result : Result Unit SettleError) → IsSettle old now line result new → Extends old new (Some now) line
  settle_extends old new (Ok u) is = goes_further (Some now) line old (begun old.replicas old now line) new (begun_extends old.replicas old) (turns_extend (begun old.replicas old now line) new _ is.1)
  settle_extends old new (Err settle_errors.Stopped) is =
      by_one (Some now) line old new (Refused now) (Refused now) (ap (λ w. length w.replicas) is.1) (ap (λ w. w.silences) is.1) (ap (λ w. w.log) is.1) (ap (λ w. w.lines) is.1) refl refl
  settle_extends old new (Err settle_errors.MomentBack) is =
      let places = late_places old.replicas now in record {
        members = ap (λ w. length w.replicas) is.2;
        silences = record { more = map (λ place. Back place now) places; parts = ap (λ w. w.silences) is.2; moments = backs_at places };
        log = record { more = map (λ place. Back place now) places; parts = ap (λ w. w.log) is.2; moments = backs_at places };
        alike = length-map places (λ place. Back place now) ∙ sym (length-map places (λ place. Back place now));
        lines = ap (λ w. w.lines) is.2 ∙ ap (λ ns. old.lines ++ ns) (one_line places);
      }
  settle_extends old new (Err settle_errors.Memory) (inl unbegun) = unchanged (Some now) line old new unbegun.world
  settle_extends old new (Err settle_errors.Memory) (inr cut) = cut_extends old new _ cut.1
