-- A frame in flight as it arrives.
use Rattle.am_wire.specs.declared.unknown.Unknown.TheVariants.{Drop}
use Rattle.std.proofs.Common.{◌≡◌, ◌⊎◌, inl, ℕ, ◌+◌, ◌-◌, List, Option, Some, None, Result, refl, sym, ap, ◌∙◌, subst, slice_get, slice_index_or, length, option_map, arith}
use Rattle.std.specs.Prelude.{All, Contains, IsSomeAnd, MatchOption}
use Rattle.std.proofs.lemmas.List.Elements.{All-contains_itself}
use Rattle.std.proofs.lemmas.Option.{get_or_from_slice_get, slice_get-get_or, slice_get_within}
use Rattle.am_instance.specs.Configs.{is_peer}
use Rattle.am_instance.specs.Deliveries.{first_fault, parts_of, rows_in}
use Rattle.am_gossip.specs.Answers.{frame_fault}
use Rattle.am_instance.specs.declared.event.Event.{Event}
use Rattle.am_instance.specs.declared.event.Event.TheVariants as events
use Rattle.am_instance.specs.declared.reply.Reply.{Reply}
use Rattle.am_runs.specs.declared.step.DeliverySource.TheVariants.{Arrived}
use Rattle.am_runs.specs.Steps.{flights_of}
use Rattle.am_cluster.specs.BothStates.{log_state, silence_state}
use Rattle.am_cluster.specs.Contents.{carries}
use Rattle.am_cluster.specs.Recorded.{HasSource}
use Rattle.am_cluster.specs.BothRuns.{RunOf, log_run, silence_run}
use Rattle.am_cluster.specs.declared.flight.Arrival.{Arrival}
use Rattle.am_cluster.specs.declared.error.ClusterError.{ClusterError}
use Rattle.am_cluster.specs.declared.flight.Flight.{Flight}
use Rattle.am_cluster.specs.Delivering.{IsArrival, IsDelivered, delivery}
use Rattle.am_cluster.specs.Doing.{IsDone}
use Rattle.am_cluster.specs.Events.{CanHave, HasHappened, IsEvent}
use Rattle.am_cluster.specs.Lives.{OfMember}
use Rattle.am_cluster.specs.Losing.{IsNumberedAt}
use Rattle.am_cluster.specs.Refusals.{IsRefused, IsUnmade, event_refusal, mark_of}
use Rattle.am_cluster.specs.Ties.{IsFlying, IsSentIn, IsWorld}
use Rattle.am_cluster.specs.Worlds.{Replica, World, replica_at}
use Rattle.am_cluster.proofs.Goes.{sent_there}
use Rattle.am_cluster.proofs.Lost.{place_within}
use Rattle.am_cluster.proofs.Places.{some_is}
use Rattle.am_cluster.proofs.Refusing.{can_have}
use Rattle.am_cluster.proofs.Stepping.{done_by}

-- the frame that is read at a place is the one that bears the number
read_there : (flights : List Flight) (number place : ℕ) (g : Flight) (at : IsNumberedAt flights number place) → g ≡ slice_index_or flights place g → slice_get flights place ≡ Some g
read_there flights number place g at is = slice_get-get_or flights place g (place_within flights number place at) ∙ ap (λ x. Some x) (sym is)

pub its_number : (flights : List Flight) (number place : ℕ) (g : Flight) (at : IsNumberedAt flights number place) → g ≡ slice_index_or flights place g → g.number ≡ number
its_number flights number place g at is = ap (λ f. f.number) (some_is g at.flight (sym (read_there flights number place g at is) ∙ at.place)) ∙ at.bears

pub it_flies : (w : World) (number place : ℕ) (g : Flight) → IsWorld w → (at : IsNumberedAt w.flights number place) → g ≡ slice_index_or w.flights place g → IsFlying w g
it_flies w number place g is at read = is.flights g (place, slice_get_within w.flights place g (read_there w.flights number place g at read), get_or_from_slice_get w.flights place g g (read_there w.flights number place g at read))

pub arrival_of : (w v : World) (number place : ℕ) (g : Flight) → w ≡ v → IsWorld w → IsNumberedAt w.flights number place → g ≡ slice_index_or w.flights place g →
    IsArrival v number (record { place = g.addressee; sender = g.sender; index = g.number - 1; position = place })
arrival_of w v number place g same is at read =
    let flying : IsFlying w g = it_flies w number place g is at read in
    subst (λ u. IsArrival u number (record { place = g.addressee; sender = g.sender; index = g.number - 1; position = place })) same (record {
      flight = g;
      there = read_there w.flights number place g at read;
      bears = its_number w.flights number place g at read;
      flying = flying;
      place_is = refl;
      sender_is = refl;
      index_is = (let number_is : g.number ≡ flying.index + 1 = flying.number in omega arith);
      unknown = λ replica found. (is.members g.addressee replica found).unknown;
    })

some_and : {A : Type 0} (o : Option A) (x : A) (P : A → Type 0) → o ≡ Some x → P x → IsSomeAnd o P
some_and o x P e p = subst (λ y. IsSomeAnd y P) (sym e) p

module _ (w : World) (number : ℕ) (a : Arrival) (is : IsArrival w number a) where
  arrives : {K X : Type 0} (run : RunOf K X) → IsSentIn run w is.flying.index is.flight is.flying.handed →
      IsSomeAnd (slice_get (flights_of (run.steps w)) a.index) (λ f. All (Contains f.versions) (run.state.versions_in (carries Drop is.flight.frame)))
  arrives run sent_in =
      let versions = run.state.versions_in (carries Drop is.flight.frame) in
      some_and (slice_get (flights_of (run.steps w)) a.index) _ (λ f. All (Contains f.versions) versions)
      (ap (slice_get (flights_of (run.steps w))) is.index_is ∙ sent_there run.state (length w.replicas) (run.steps w) is.flying.index is.flight is.flying.handed sent_in)
      (All-contains_itself versions)

  -- what arrives comes from the frame, in both runs, and nothing in it is at fault
  module _ (event : Event) (copied : (flight : Flight) → slice_get w.flights a.position ≡ Some flight → event ≡ events.Frame a.sender flight.frame) where
    pub copy_is : event ≡ events.Frame is.flight.sender is.flight.frame
    copy_is = copied is.flight is.there ∙ ap (λ s. events.Frame s is.flight.frame) is.sender_is

    pub silences_from : (now : ℕ) → HasSource silence_state Drop (length w.replicas) w.silences now event (Arrived a.index)
    silences_from now = subst (λ e. HasSource silence_state Drop (length w.replicas) w.silences now e (Arrived a.index)) (sym copy_is) (arrives silence_run is.flying.silences)

    pub log_from : (now : ℕ) → HasSource log_state Drop (length w.replicas) w.log now event (Arrived a.index)
    log_from now = subst (λ e. HasSource log_state Drop (length w.replicas) w.log now e (Arrived a.index)) (sym copy_is) (arrives log_run is.flying.log)

    pub arrives_at : (now : ℕ) → OfMember w a.place (λ replica. event_refusal (is_peer replica.stand.config a.sender) replica now ≡ None) → OfMember w a.place (λ replica. CanHave replica event now)
    arrives_at now none replica found = subst (λ e. CanHave replica e now) (sym copy_is)
        (can_have now replica (events.Frame is.flight.sender is.flight.frame)
        (subst (λ u. option_map frame_fault (first_fault (rows_in u (parts_of is.flight.frame))) ≡ None)
        (sym (is.unknown replica (subst (λ p. replica_at w p ≡ Some replica) is.place_is found))) (ap (option_map frame_fault) is.flying.sound))
        (subst (λ s. event_refusal (is_peer replica.stand.config s) replica now ≡ None) is.sender_is (none replica found)))

  -- the addressee is told by the place
  at_addressee : (P : ℕ → Replica → Type 0) → OfMember w a.place (P a.place) → OfMember w is.flight.addressee (P is.flight.addressee)
  at_addressee P holds = subst (λ p. OfMember w p (P p)) is.place_is holds

  delivered : (now line : ℕ) (result : Result Reply ClusterError) (new : World) →
      OfMember w a.place (λ replica. IsDone w a.place replica (delivery is.flight is.flying.index) now line result new) → IsDelivered w number now line result new
  delivered now line result new done = record {
    flight = is.flight;
    there = (a.position, slice_get_within w.flights a.position is.flight is.there, get_or_from_slice_get w.flights a.position is.flight is.flight is.there);
    bears = is.bears;
    index = is.flying.index;
    index_is = is.flying.number;
    done = at_addressee (λ p replica. IsDone w p replica (delivery is.flight is.flying.index) now line result new) done;
  }

  module _ (now line : ℕ) (result : Result Reply ClusterError) (new : World) where
    done_of : (replica : Replica) (o : Option ClusterError) → o ≡ event_refusal (is_peer replica.stand.config a.sender) replica now →
        MatchOption o (IsUnmade w result new ⊎ HasHappened w a.place replica (events.Frame is.flight.sender is.flight.frame) (Arrived is.flying.index) now line result new)
        (λ cause. IsRefused cause (mark_of cause a.place now) w line result new) →
        IsDone w a.place replica (delivery is.flight is.flying.index) now line result new
    done_of replica o told match =
        done_by w new a.place replica (delivery is.flight is.flying.index) now line result o
        (told ∙ ap (λ s. event_refusal (is_peer replica.stand.config s) replica now) is.sender_is) match

    -- it is refused there
    pub delivered_refused : (cause : ClusterError) → OfMember w a.place (λ replica. Some cause ≡ event_refusal (is_peer replica.stand.config a.sender) replica now) →
        IsRefused cause (mark_of cause a.place now) w line result new → IsDelivered w number now line result new
    delivered_refused cause told refused = delivered now line result new (λ replica found. done_of replica (Some cause) (told replica found) refused)

    -- there was no memory for a copy
    pub delivered_unmade : OfMember w a.place (λ replica. None ≡ event_refusal (is_peer replica.stand.config a.sender) replica now) → IsUnmade w result new → IsDelivered w number now line result new
    delivered_unmade told unmade = delivered now line result new (λ replica found. done_of replica None (told replica found) (inl unmade))

    -- it happened there
    pub delivered_event : (event : Event) → ((flight : Flight) → slice_get w.flights a.position ≡ Some flight → event ≡ events.Frame a.sender flight.frame) →
        OfMember w a.place (λ replica. None ≡ event_refusal (is_peer replica.stand.config a.sender) replica now) →
        OfMember w a.place (λ replica. IsEvent w a.place replica event (Arrived a.index) now line result new) → IsDelivered w number now line result new
    delivered_event event copied told came = delivered now line result new (λ replica found. done_of replica None (told replica found)
        (subst (λ i. IsEvent w a.place replica (events.Frame is.flight.sender is.flight.frame) (Arrived i) now line result new) is.index_is
        (subst (λ e. IsEvent w a.place replica e (Arrived a.index) now line result new) (copy_is event copied) (came replica found))))
