-- A cluster hangs together after an event of a member.
use Rattle.am_wire.specs.declared.unknown.Unknown.TheVariants.{Drop}
use Rattle.std.proofs.Common.{◌≡◌, ◌⊎◌, inl, inr, ℕ, suc, ◌+◌, ◌<◌, ◌≤◌, Bool, true, false, cond, eqb, List, [], ◌∷◌, ◌++◌, Some, Result, Ok, Err, refl, sym, ap, ◌∙◌, subst, append-nil, slice_get, length, option_map, arith}
use Rattle.std.specs.Prelude.{Contains, All}
use Rattle.std.specs.List.{AllByRecursion}
use Rattle.std.proofs.lemmas.List.Elements.{All-contains, Contains-append_left, Contains-append_right, Contains-append_cases, Contains-push}
use Rattle.am_runs.proofs.Views.{empty}
use Rattle.std.proofs.lemmas.Option.{get_or_from_slice_get, slice_get-map, slice_get_within}
use Rattle.am_merge.proofs.Indexes.{Contains-cases}
use Rattle.am_collect.specs.Kept.{Kept}
use Rattle.am_gossip.specs.declared.frame.Frame.{Frame}
use Rattle.am_instance.specs.declared.event.Event.{Event}
use Rattle.am_gossip.specs.declared.refusals.StepError.{StepError}
use Rattle.am_gossip.specs.declared.refusals.StepError.TheVariants.{Memory, MomentBack, UnknownPeer, Frame as FrameFault}
use Rattle.am_instance.specs.declared.reply.Outcome.{Outcome}
use Rattle.am_wire.specs.Unknown.{StaysWhole}
use Rattle.am_silence.specs.Mesh.{without_unknown}
use Rattle.am_nflog.specs.Mesh.{without_unknown as entry_without_unknown}
use Rattle.am_instance.specs.Configs.{Settings}
use Rattle.am_instance.specs.InstanceStates.{InstanceState}
use Rattle.am_instance.specs.Steps.{collects, delivers}
use Rattle.am_instance.specs.OneStep.{IsStep}
use Rattle.am_runs.specs.declared.step.DeliverySource.{DeliverySource}
use Rattle.am_runs.specs.Steps.{RunStep, flights_by, flights_of, is_at}
use Rattle.am_runs.specs.Steps.RunStep.{Took, Ticked}
use Rattle.am_runs.specs.Members.{Member, stepped, member_of, map_of}
use Rattle.am_cluster.specs.BothStates.{StateOf, log_state, silence_state}
use Rattle.am_cluster.specs.Contents.{carries}
use Rattle.am_cluster.specs.Recorded.{AreInFlight, HasGoneThrough, event_step, flights_in, sent_in}
use Rattle.am_cluster.proofs.Going.{members_go_on, own_member_changes}
use Rattle.am_cluster.proofs.Lending.{frames_are_flights}
use Rattle.am_cluster.proofs.States.{IsStateOf, of_log, of_silences}
use Rattle.am_cluster.specs.declared.flight.Flight.{Flight}
use Rattle.am_cluster.specs.Worlds.{Replica, World, replica_at, sent_on, with_replica, written}
use Rattle.am_cluster.specs.BothRuns.{RunOf, log_run, silence_run}
use Rattle.am_cluster.specs.Events.{with_stand}
use Rattle.am_cluster.specs.Ties.{CanFly, IsTied, IsTiedIn, IsFlying, IsWorld, AreAscending, WasHandedOut, WasSent, member_in}
use Rattle.am_cluster.proofs.Goes.{goes_on_at, sent_there}
use Rattle.am_cluster.proofs.Lived.{elsewhere}
use Rattle.am_cluster.proofs.Places.{own_place, set_length}

-- one of the frames that fly, by its number
pub record FliesAs (count place now : ℕ) (frames : List (ℕ × Frame)) (flight : Flight) : Type 0 where
  pub nth : ℕ
  pub frame : ℕ × Frame
  pub there : slice_get frames nth ≡ Some frame
  pub is : ◌≡◌ {A = Flight} flight (record { number = (count + nth) + 1; sender = place; addressee = frame.0; sent = now; frame = frame.1 })

next_as : (count place now : ℕ) (f : ℕ × Frame) (frames : List (ℕ × Frame)) (flight : Flight) → FliesAs (count + 1) place now frames flight → FliesAs count place now (f ∷ frames) flight
next_as count place now f frames flight fl = record {
  nth = suc fl.nth;
  frame = fl.frame;
  there = fl.there;
  is = fl.is ∙ ap (λ n. record { number = n; sender = place; addressee = fl.frame.0; sent = now; frame = fl.frame.1 }) (omega arith);
}

sent_as : (count place now : ℕ) (frames : List (ℕ × Frame)) (flight : Flight) → Contains (sent_on count place now frames) flight → FliesAs count place now frames flight
sent_as count place now [] flight within = absurd (empty flight within)
sent_as count place now (f ∷ frames) flight within =
    by (Contains-cases _ flight (sent_on (count + 1) place now frames) within) (sent_as (count + 1) place now frames flight) where
      by : ◌≡◌ {A = Flight} (record { number = count + 1; sender = place; addressee = f.0; sent = now; frame = f.1 }) flight ⊎ Contains (sent_on (count + 1) place now frames) flight →
          (Contains (sent_on (count + 1) place now frames) flight → FliesAs (count + 1) place now frames flight) → FliesAs count place now (f ∷ frames) flight
      by (inl first) more = record { nth = 0; frame = f; there = refl; is = sym first ∙ ap (λ n. record { number = n; sender = place; addressee = f.0; sent = now; frame = f.1 }) (omega arith) }
      by (inr later) more = next_as count place now f frames flight (more later)

got_of_all : {A : Type 0} (P : A → Type 0) (xs : List A) (n : ℕ) (x : A) → All P xs → slice_get xs n ≡ Some x → P x
got_of_all P xs n x all there = All-contains P xs x all (n, slice_get_within xs n x there, get_or_from_slice_get xs n x x there)

-- so far as it sends something it is a step of the member at the place
sends_own : {K X : Type 0} (state : StateOf K X) (place now : ℕ) (source : DeliverySource) (event : Event) (answer : Result Outcome StepError) (frames : List (ℕ × Frame)) (nth : ℕ) (f : ℕ × Frame) →
    AreInFlight answer frames → slice_get frames nth ≡ Some f → is_at place (event_step state Drop place now source event answer frames) ≡ true
sends_own state place now source event (Ok outcome) frames nth f flying there = by (collects event) where
  by : (collecting : Bool) → is_at place (cond collecting (Ticked place now) (Took place now source (state.versions_in (delivers Drop event outcome.made)) (sent_in state Drop frames))) ≡ true
  by true = own_place place
  by false = own_place place
sends_own state place now source event (Err e) frames nth f flying there = absurd (let none = ap (λ fs. slice_get fs nth) flying in cc)

-- an instance that stands at a place made a step at a moment, which hands out these frames
pub record HandsOut (place now : ℕ) (frames : List (ℕ × Frame)) : Type 0 where
  pub stand : InstanceState
  pub event : Event
  pub source : DeliverySource
  pub answer : Result Outcome StepError
  pub after : InstanceState
  pub step : IsStep stand event now answer after
  pub own_place : stand.config.place ≡ place
  pub flying : AreInFlight answer frames

-- an answer with frames that fly is an outcome, of which they are all frames
answered_with : (answer : Result Outcome StepError) (frames : List (ℕ × Frame)) (nth : ℕ) (frame : ℕ × Frame) → AreInFlight answer frames → slice_get frames nth ≡ Some frame →
    (outcome : Outcome) × (answer ≡ Ok outcome) × (frames ≡ outcome.frames.items)
answered_with (Ok outcome) frames nth frame (inl all) there = (outcome, refl, all)
answered_with (Ok outcome) frames nth frame (inr none) there = absurd (let nothing = ap (λ fs. slice_get fs nth) none in cc)
answered_with (Err e) frames nth frame none there = absurd (let nothing = ap (λ fs. slice_get fs nth) none in cc)

-- one of them goes to its addressee
handed_out : (place now number nth : ℕ) (frames : List (ℕ × Frame)) (frame : ℕ × Frame) (hands : HandsOut place now frames) → slice_get frames nth ≡ Some frame →
    WasHandedOut (record { number = number; sender = place; addressee = frame.0; sent = now; frame = frame.1 })
handed_out place now number nth frames frame hands there =
    let found = answered_with hands.answer frames nth frame hands.flying there in record {
      stand = hands.stand;
      event = hands.event;
      source = hands.source;
      outcome = found.0;
      after = hands.after;
      step = subst (λ a. IsStep hands.stand hands.event now a hands.after) found.1 hands.step;
      own_place = hands.own_place;
      nth = nth;
      to_addressee = ap (λ fs. slice_get fs nth) (sym found.2) ∙ there;
    }

-- one of the runs goes on with a step of the member at a place, which sends these frames
pub record Sends {K X : Type 0} (run : RunOf K X) (w new : World) (place now : ℕ) (frames : List (ℕ × Frame)) (hands : HandsOut place now frames) : Type 0 where
  pub step : RunStep X
  pub parts : run.steps new ≡ run.steps w ++ step ∷ []
  pub members : length new.replicas ≡ length w.replicas
  pub stood : HasGoneThrough run.state (member_in run w place).past (run.state.kept hands.stand)
  pub is : step ≡ event_step run.state Drop place now hands.source hands.event hands.answer frames
  pub own : (nth : ℕ) (frame : ℕ × Frame) → slice_get frames nth ≡ Some frame → is_at place step ≡ true
  pub flights : flights_by step ≡ flights_in run.state Drop now frames

-- in one of the runs, what is sent now is sent behind what was sent before
sent_behind : {K X : Type 0} (run : RunOf K X) (w new : World) (place now count nth : ℕ) (frames : List (ℕ × Frame)) (frame : ℕ × Frame) (hands : HandsOut place now frames) →
    Sends run w new place now frames hands → count ≡ length (flights_of (run.steps w)) → (there : slice_get frames nth ≡ Some frame) →
    WasSent run.state (length new.replicas) (run.steps new) (count + nth) (record { number = (count + nth) + 1; sender = place; addressee = frame.0; sent = now; frame = frame.1 })
    (handed_out place now ((count + nth) + 1) nth frames frame hands there)
unfolding handed_out
sent_behind run w new place now count nth frames frame hands sends same there = record {
  before = run.steps w;
  step = sends.step;
  rest = [];
  parts = sends.parts;
  stood = subst (λ n. HasGoneThrough run.state (member_of n place (run.steps w)).past (run.state.kept hands.stand)) (sym sends.members) sends.stood;
  is =
      let found = answered_with hands.answer frames nth frame hands.flying there in
      sends.is
      ∙ (ap (λ a. event_step run.state Drop place now hands.source hands.event a frames) found.1
      ∙ ap (λ fs. event_step run.state Drop place now hands.source hands.event (Ok found.0) fs) found.2);
  own = sends.own nth frame there;
  index_is = ap (λ n. n + nth) same;
  sent = ap (λ fs. slice_get fs nth) sends.flights
      ∙ (slice_get-map (λ f. record { sent = now; versions = run.state.versions_in (carries Drop f.1) }) frames nth ∙ ap (option_map (λ f. record { sent = now; versions = run.state.versions_in (carries Drop f.1) })) there);
}

module _ (w new : World) (place now : ℕ) (frames : List (ℕ × Frame)) (hands : HandsOut place now frames) where
  -- what is sent now flies behind what was sent before
  flies : Sends silence_run w new place now frames hands → Sends log_run w new place now frames hands →
      length (flights_of w.silences) ≡ length (flights_of w.log) → length new.replicas ≡ length w.replicas → place < length w.replicas → All (CanFly (length w.replicas) place) frames →
      (flight : Flight) → FliesAs (length (flights_of w.silences)) place now frames flight → IsFlying new flight
  flies silences log same members inside can flight fl =
      let good = got_of_all (CanFly (length w.replicas) place) frames fl.nth fl.frame can fl.there in
      subst (IsFlying new) (sym fl.is) (record {
        index = length (flights_of w.silences) + fl.nth;
        number = refl;
        handed = handed_out place now ((length (flights_of w.silences) + fl.nth) + 1) fl.nth frames fl.frame hands fl.there;
        silences = sent_behind silence_run w new place now (length (flights_of w.silences)) fl.nth frames fl.frame hands silences refl fl.there;
        log = sent_behind log_run w new place now (length (flights_of w.silences)) fl.nth frames fl.frame hands log same fl.there;
        sound = good.no_fault;
        addressee = subst (λ n. fl.frame.0 < n) (sym members) good.addressee;
        sender = subst (λ n. place < n) (sym members) inside;
        other = good.other;
      })

-- ---- numbers ascend

all_rec : {A : Type 0} (P : A → Type 0) (xs : List A) → ((x : A) → Contains xs x → P x) → AllByRecursion P xs
all_rec P [] each = tt
all_rec P (x ∷ xs) each = (each x (Contains-append_left (x ∷ []) xs x (Contains-push [] x)), all_rec P xs (λ y within. each y (Contains-append_right (x ∷ []) xs y within)))

append_rec : {A : Type 0} (P : A → Type 0) (xs ys : List A) → AllByRecursion P xs → AllByRecursion P ys → AllByRecursion P (xs ++ ys)
append_rec P [] ys first second = second
append_rec P (x ∷ xs) ys first second = (first.0, append_rec P xs ys first.1 second)

weaker_rec : {A : Type 0} (P Q : A → Type 0) (xs : List A) → ((x : A) → P x → Q x) → AllByRecursion P xs → AllByRecursion Q xs
weaker_rec P Q [] each all = tt
weaker_rec P Q (x ∷ xs) each all = (each x all.0, weaker_rec P Q xs each all.1)

above : (count place now : ℕ) (frames : List (ℕ × Frame)) → AllByRecursion (λ f. count < f.number) (sent_on count place now frames)
above count place now [] = tt
above count place now (f ∷ frames) =
    (omega arith, weaker_rec (λ g. count + 1 < g.number) (λ g. count < g.number) (sent_on (count + 1) place now frames) (λ g more. omega arith) (above (count + 1) place now frames))

sent_ascend : (count place now : ℕ) (frames : List (ℕ × Frame)) → AreAscending (sent_on count place now frames)
sent_ascend count place now [] = tt
sent_ascend count place now (f ∷ frames) = (above (count + 1) place now frames, sent_ascend (count + 1) place now frames)

ascend_behind : (count : ℕ) (old more : List Flight) → AllByRecursion (λ f. f.number ≤ count) old → AllByRecursion (λ f. count < f.number) more → AreAscending old → AreAscending more → AreAscending (old ++ more)
ascend_behind count [] more below over first second = second
ascend_behind count (f ∷ old) more below over first second = (
  append_rec (λ g. f.number < g.number) old more first.0
      (weaker_rec (λ g. count < g.number) (λ g. f.number < g.number) more (λ g past. let low : f.number ≤ count = below.0 in omega arith) over),
  ascend_behind count old more below.1 over first.1 second,
)

-- ---- the whole

numbered_below : (w : World) (flight : Flight) → IsFlying w flight → flight.number ≤ length (flights_of w.silences)
numbered_below w flight is = let inside : is.index < length (flights_of w.silences) = slice_get_within (flights_of w.silences) is.index _ (sent_there silence_state (length w.replicas) w.silences is.index flight is.handed is.silences) in let number : flight.number ≡ is.index + 1 = is.number in omega arith

-- a cluster whose members hang together, and frames that are sent on
pub sent_world : (w new : World) (place now : ℕ) (frames : List (ℕ × Frame)) (hands : HandsOut place now frames) → IsWorld w → IsWorld new → new.flights ≡ w.flights →
    Sends silence_run w new place now frames hands → Sends log_run w new place now frames hands →
    length (flights_of w.silences) ≡ length (flights_of w.log) → length new.replicas ≡ length w.replicas → place < length w.replicas → All (CanFly (length w.replicas) place) frames →
    IsWorld (record new { flights = w.flights ++ sent_on (length (flights_of w.silences)) place now frames })
sent_world w new place now frames hands was is kept silences log same members inside can = record {
  members = λ q replica there. let m = is.members q replica there in record { silences = m.silences; log = m.log; place = m.place; members = m.members; names = m.names; unknown = m.unknown; whole = m.whole; saved_whole = m.saved_whole };
  flights = λ flight within. again flight (one flight (Contains-append_cases w.flights (sent_on (length (flights_of w.silences)) place now frames) flight within));
  numbers =
      ascend_behind (length (flights_of w.silences)) w.flights _
      (all_rec (λ f. f.number ≤ length (flights_of w.silences)) w.flights (λ f within. numbered_below w f (was.flights f within)))
      (above (length (flights_of w.silences)) place now frames) was.numbers (sent_ascend (length (flights_of w.silences)) place now frames);
} where
  one : (flight : Flight) → Contains w.flights flight ⊎ Contains (sent_on (length (flights_of w.silences)) place now frames) flight → IsFlying new flight
  one flight (inl old) = is.flights flight (subst (λ fs. Contains fs flight) (sym kept) old)
  one flight (inr fresh) = flies w new place now frames hands silences log same members inside can flight (sent_as (length (flights_of w.silences)) place now frames flight fresh)

  again : (flight : Flight) → IsFlying new flight → IsFlying (record new { flights = w.flights ++ sent_on (length (flights_of w.silences)) place now frames }) flight
  again flight f = record { index = f.index; number = f.number; handed = f.handed; silences = f.silences; log = f.log; sound = f.sound; addressee = f.addressee; sender = f.sender; other = f.other }

-- ---- a member's own event

module _ {K X : Type 0} (state : StateOf K X) (place now : ℕ) (source : DeliverySource) (event : Event) (frames : List (ℕ × Frame)) where
  runs_kept_by : (m : Member X) (collecting : Bool) (vs : List X) → (stepped m (cond collecting (Ticked place now) (Took place now source vs (sent_in state Drop frames)))).runs ≡ m.runs
  runs_kept_by m true vs = refl
  runs_kept_by m false vs = refl

  saved_kept_by : (m : Member X) (collecting : Bool) (vs : List X) → (stepped m (cond collecting (Ticked place now) (Took place now source vs (sent_in state Drop frames)))).saved ≡ m.saved
  saved_kept_by m true vs = refl
  saved_kept_by m false vs = refl

  pub runs_kept : (m : Member X) (answer : Result Outcome StepError) → (stepped m (event_step state Drop place now source event answer frames)).runs ≡ m.runs
  runs_kept m (Ok outcome) = runs_kept_by m (collects event) (state.versions_in (delivers Drop event outcome.made))
  runs_kept m (Err (Memory taken)) = refl
  runs_kept m (Err (MomentBack last)) = refl
  runs_kept m (Err UnknownPeer) = refl
  runs_kept m (Err (FrameFault fault)) = refl

  pub saved_kept : (m : Member X) (answer : Result Outcome StepError) → (stepped m (event_step state Drop place now source event answer frames)).saved ≡ m.saved
  saved_kept m (Ok outcome) = saved_kept_by m (collects event) (state.versions_in (delivers Drop event outcome.made))
  saved_kept m (Err (Memory taken)) = refl
  saved_kept m (Err (MomentBack last)) = refl
  saved_kept m (Err UnknownPeer) = refl
  saved_kept m (Err (FrameFault fault)) = refl

  not_at_by : (q : ℕ) → eqb place q ≡ false → (collecting : Bool) (vs : List X) → is_at q (cond collecting (Ticked place now) (Took place now source vs (sent_in state Drop frames))) ≡ false
  not_at_by q apart true vs = apart
  not_at_by q apart false vs = apart

  pub not_at : (q : ℕ) → eqb place q ≡ false → (answer : Result Outcome StepError) → is_at q (event_step state Drop place now source event answer frames) ≡ false
  not_at q apart (Ok outcome) = not_at_by q apart (collects event) (state.versions_in (delivers Drop event outcome.made))
  not_at q apart (Err (Memory taken)) = apart
  not_at q apart (Err (MomentBack last)) = apart
  not_at q apart (Err UnknownPeer) = refl
  not_at q apart (Err (FrameFault fault)) = refl

  -- the state of the member after it, where the map has gone on
  tied_after : (members : ℕ) (before : List (RunStep X)) (runs : Bool) (old new : Kept X) (saved : List X) (answer : Result Outcome StepError) →
      IsTied state (member_of members place before) runs old saved →
      HasGoneThrough state (stepped (member_of members place before) (event_step state Drop place now source event answer frames)).past new →
      IsTied state (member_of members place (before ++ event_step state Drop place now source event answer frames ∷ [])) runs new saved
  tied_after members before runs old new saved answer tied gone =
      subst (λ m. IsTied state m runs new saved) (sym (own_member_changes state Drop members place now source before event answer frames)) (record {
        runs = runs_kept (member_of members place before) answer ∙ tied.runs;
        held = gone;
        saved = λ key. tied.saved key ∙ ap (λ m. map_of state.seen state.cmp m key) (sym (saved_kept (member_of members place before) answer));
      })

module _ (w : World) (place : ℕ) (r : Replica) (stand : InstanceState) (event : Event) (source : DeliverySource) (now line : ℕ) (answer : Result Outcome StepError) (frames : List (ℕ × Frame)) where
  abbrev pub after_event : World
  after_event = written (with_replica w place (with_stand r stand)) (event_step silence_state Drop place now source event answer frames) (event_step log_state Drop place now source event answer frames) line

  -- the member in one of the runs
  tied_next : {K X : Type 0} (run : RunOf K X) → IsStateOf run.state → r.stand.config.unknown ≡ Drop → IsTiedIn run w place r → IsStep r.stand event now answer stand →
      IsTied run.state (member_of (length w.replicas) place (run.steps w ++ event_step run.state Drop place now source event answer frames ∷ [])) r.runs (run.state.kept stand) (run.saved r)
  tied_next run facts drops tied step =
      tied_after run.state place now source event frames (length w.replicas) (run.steps w) r.runs (run.state.kept r.stand) (run.state.kept stand) (run.saved r) answer tied
      (subst (λ u. HasGoneThrough run.state (stepped (member_in run w place) (event_step run.state u place now source event answer frames)).past (run.state.kept stand)) drops
      (members_go_on facts (member_in run w place) place now source r.stand stand event answer frames tied.held step))

  -- the cluster after it, but for the frames that fly now
  world_stepped : IsWorld w → replica_at w place ≡ Some r → IsStep r.stand event now answer stand → IsWorld after_event
  world_stepped is found step =
      goes_on_at w place r (with_stand r stand) (event_step silence_state Drop place now source event answer frames) (event_step log_state Drop place now source event answer frames) line is found
      (λ q apart. not_at silence_state place now source event frames q (elsewhere place q apart) answer)
      (λ q apart. not_at log_state place now source event frames q (elsewhere place q apart) answer)
      (tied_next silence_run of_silences (is.members place r found).unknown (is.members place r found).silences step)
      (tied_next log_run of_log (is.members place r found).unknown (is.members place r found).log step)
      step.config
      (step.kept (is.members place r found).whole)
      (record {
        silences = subst (λ (c : Settings). All (StaysWhole without_unknown c.unknown) r.saved_silences) (sym step.config) (is.members place r found).saved_whole.silences;
        log = subst (λ (c : Settings). All (StaysWhole entry_without_unknown c.unknown) r.saved_log) (sym step.config) (is.members place r found).saved_whole.log;
      })

  -- what it sends
  hands_now : IsStep r.stand event now answer stand → r.stand.config.place ≡ place → AreInFlight answer frames → HandsOut place now frames
  hands_now step own flying = record { stand = r.stand; event = event; source = source; answer = answer; after = stand; step = step; own_place = own; flying = flying }

  sends_now : {K X : Type 0} (run : RunOf K X) (new : World) → run.steps new ≡ run.steps w ++ event_step run.state Drop place now source event answer frames ∷ [] → (step : IsStep r.stand event now answer stand) →
      (own : r.stand.config.place ≡ place) (flying : AreInFlight answer frames) → length new.replicas ≡ length w.replicas → r.stand.config.unknown ≡ Drop → IsTiedIn run w place r →
      Sends run w new place now frames (hands_now step own flying)
  unfolding hands_now
  sends_now run new parts step own flying members drops tied = record {
    step = event_step run.state Drop place now source event answer frames;
    parts = parts;
    members = members;
    stood = tied.held;
    is = refl;
    own = λ nth frame there. sends_own run.state place now source event answer frames nth frame flying there;
    flights = sym (append-nil (flights_by (event_step run.state Drop place now source event answer frames)))
        ∙ subst (λ u. flights_of (event_step run.state u place now source event answer frames ∷ []) ≡ flights_in run.state u now frames) drops
        (frames_are_flights run.state place now [] source r.stand stand event answer frames step flying);
  }

  -- and with them
  pub world_happened : IsWorld w → replica_at w place ≡ Some r → IsStep r.stand event now answer stand → AreInFlight answer frames →
      length (flights_of w.silences) ≡ length (flights_of w.log) → All (CanFly (length w.replicas) place) frames →
      IsWorld (record after_event { flights = w.flights ++ sent_on (length (flights_of w.silences)) place now frames })
  world_happened is found step flying same can =
      let own = (is.members place r found).place in
      let drops = (is.members place r found).unknown in
      let members = set_length w.replicas place (with_stand r stand) in
      sent_world w after_event place now frames (hands_now step own flying) is (world_stepped is found step) refl
      (sends_now silence_run after_event refl step own flying members drops (is.members place r found).silences) (sends_now log_run after_event refl step own flying members drops (is.members place r found).log)
      same (set_length w.replicas place (with_stand r stand)) (slice_get_within w.replicas place r found) can
