-- Maps that a member lends, versions that are delivered, and frames that fly.
use Rattle.std.proofs.Common.{◌≡◌, ⊎_elim, ℕ, List, [], ◌∷◌, ◌++◌, Bool, true, false, ap, refl, sym, subst, ◌∙◌}
use Rattle.std.specs.Prelude.{All, Option, Some, None, IfSome, option_map, map, Result, Ok, Err, if◌then◌else◌, Contains, IsSomeAnd}
use Rattle.std.proofs.lemmas.List.Elements.{All-nil, All-cons, All-map, All-append, All-contains_itself}
use Rattle.am_wire.specs.declared.unknown.Unknown.{Unknown}
use Rattle.am_silence.specs.Mesh.{IsMesh}
use Rattle.am_nflog.specs.Mesh.{Mesh as LogMesh, IsMesh as IsLogMesh}
use Rattle.am_gossip.specs.Answers.{frame_fault}
use Rattle.am_gossip.specs.declared.frame.Frame.{Frame}
use Rattle.am_gossip.specs.declared.frame.Frame.TheVariants as frames
use Rattle.am_collect.specs.Events.MapEvent.{Passed}
use Rattle.am_runs.specs.declared.step.DeliverySource.{DeliverySource}
use Rattle.am_runs.specs.Steps.{SentFrame, flights_by, flights_of}
use Rattle.am_runs.specs.Steps.RunStep.{Took, Ticked}
use Rattle.am_runs.specs.Members.{map_of, member_of}
use Rattle.am_runs.proofs.Pasts.{flights_of-push, last-one, map_of-append}
use Rattle.am_instance.specs.declared.event.Event.{Event}
use Rattle.am_instance.specs.declared.event.Event.TheVariants as events
use Rattle.am_gossip.specs.declared.refusals.StepError.{StepError}
use Rattle.am_gossip.specs.declared.refusals.StepError.TheVariants.{MomentBack, UnknownPeer, Frame as FrameFault, Memory}
use Rattle.am_instance.specs.declared.reply.Made.{Made}
use Rattle.am_instance.specs.declared.reply.Outcome.{Outcome}
use Rattle.am_instance.specs.Configs.{Settings}
use Rattle.am_instance.specs.Deliveries.Delivery.{OfSilence, OfEntry}
use Rattle.am_instance.specs.OneStep.{IsStep}
use Rattle.am_instance.specs.Replies.{listed}
use Rattle.am_instance.specs.Sendings.{whole_state}
use Rattle.am_instance.specs.InstanceStates.{InstanceState}
use Rattle.am_instance.specs.Steps.{brought, collects, delivers, fault_of, made_here}
use Rattle.am_cluster.specs.BothStates.{StateOf}
use Rattle.am_cluster.specs.Contents.{carries, held_in, IsReadable, IsValue}
use Rattle.am_cluster.proofs.RoundTrip.{whole_carries, whole_sound}
use Rattle.am_cluster.specs.Recorded.{AreInFlight, event_step, flights_in, sent_in}
use Rattle.am_cluster.specs.StepLaws.{FramesAreFlights, FramesComeFromFlights, LentMapsAreItsLenders, StartsGoOn}
use Rattle.am_cluster.proofs.Outgoing.{collecting_sends}
use Rattle.am_cluster.proofs.States.{IsStateOf, held_at}

-- ---- what is delivered
one_entry : (entry : Option LogMesh) → IfSome entry IsLogMesh → All IsValue (map OfEntry (listed entry))
one_entry None is = All-nil IsValue
one_entry (Some e) is = All-cons IsValue (OfEntry e) [] is (All-nil IsValue)

pub values_delivered : (unknown : Unknown) (event : Event) (made : Made) → All IsValue (brought unknown event) → All IsMesh made.silences.items → IfSome made.log IsLogMesh → All IsValue (delivers unknown event made)
values_delivered unknown event made came silences log =
    All-append IsValue (brought unknown event) (made_here made) came
    (All-append IsValue (map OfSilence made.silences.items) (map OfEntry (listed made.log)) (All-map IsValue OfSilence made.silences.items silences) (one_entry made.log log))

-- ---- what is lent
module _ (unknown : Unknown) (lent : InstanceState) (is : All (IsReadable unknown) (map OfSilence lent.silences)) (are : All (IsReadable unknown) (map OfEntry lent.log)) where
  abbrev pub lending : Frame
  lending = frames.Pull (whole_state lent.silences lent.log)

  pub lent_whole : carries unknown lending ≡ held_in lent.silences lent.log
  lent_whole = whole_carries unknown lent.silences lent.log is are

pub lent_sound : (config : Settings) (sender now : ℕ) (lent : InstanceState) → All (IsReadable config.unknown) (map OfSilence lent.silences) → All (IsReadable config.unknown) (map OfEntry lent.log) →
    fault_of config now (events.Frame sender (frames.Pull (whole_state lent.silences lent.log))) ≡ None
lent_sound config sender now lent is are = ap (option_map frame_fault) (whole_sound config.unknown lent.silences lent.log is are)

pub lent_maps_are_its_lenders : {K X : Type 0} {state : StateOf K X} → IsStateOf state → LentMapsAreItsLenders state
lent_maps_are_its_lenders {K} {X} {state} facts = λ unknown members lender now before lent runs gone maps is are.
    let past = (member_of members lender before).past in (
      runs,
      subst (All (λ v. map_of state.seen state.cmp past (state.seen v).key ≡ Some v)) (sym (ap state.versions_in (lent_whole unknown lent is are) ∙ facts.parted lent))
          (λ k v within. sym (gone.map _) ∙ held_at facts lent maps k v within),
    )

-- ---- what flies
module _ {K X : Type 0} (state : StateOf K X) (place now : ℕ) (source : DeliverySource) where
  fly : (unknown : Unknown) (vs : List X) (fs : List (ℕ × Frame)) → flights_by (Took place now source vs (sent_in state unknown fs)) ≡ flights_in state unknown now fs
  fly unknown vs [] = refl
  fly unknown vs (f ∷ fs) = ap (λ flights. record { sent = now; versions = state.versions_in (carries unknown f.1) } ∷ flights) (fly unknown vs fs)

  none_fly : (unknown : Unknown) (fs : List (ℕ × Frame)) → fs ≡ [] → [] ≡ flights_in state unknown now fs
  none_fly unknown fs none = sym (ap (flights_in state unknown now) none)

  fly_by : (unknown : Unknown) (collecting : Bool) (vs : List X) (fs : List (ℕ × Frame)) → (collecting ≡ true → fs ≡ []) →
      flights_by (if collecting then Ticked place now else Took place now source vs (sent_in state unknown fs)) ≡ flights_in state unknown now fs
  fly_by unknown true vs fs none = none_fly unknown fs (none refl)
  fly_by unknown false vs fs none = fly unknown vs fs

  step_flies : (old new : InstanceState) (event : Event) (answer : Result Outcome StepError) (fs : List (ℕ × Frame)) → IsStep old event now answer new → AreInFlight answer fs →
      flights_by (event_step state old.config.unknown place now source event answer fs) ≡ flights_in state old.config.unknown now fs
  step_flies old new event (Ok outcome) fs step flying =
      fly_by old.config.unknown (collects event) (state.versions_in (delivers old.config.unknown event outcome.made)) fs
      (λ collecting. ⊎_elim (λ all. all ∙ ap (λ sent. sent.frames) (collecting_sends old event now outcome new collecting step)) (λ none. none) flying)
  step_flies old new event (Err (Memory taken)) fs step flying = none_fly old.config.unknown fs flying
  step_flies old new event (Err (MomentBack last)) fs step flying = none_fly old.config.unknown fs flying
  step_flies old new event (Err UnknownPeer) fs step flying = none_fly old.config.unknown fs flying
  step_flies old new event (Err (FrameFault fault)) fs step flying = none_fly old.config.unknown fs flying

pub frames_are_flights : {K X : Type 0} (state : StateOf K X) → FramesAreFlights state
frames_are_flights state = λ place now before source old new event answer frames step flying.
    flights_of-push before (event_step state old.config.unknown place now source event answer frames)
    ∙ ap (λ flights. flights_of before ++ flights) (step_flies state place now source old new event answer frames step flying)

-- ---- what arrives, and a start
pub frames_come_from_flights : {K X : Type 0} (state : StateOf K X) → FramesComeFromFlights state
frames_come_from_flights {K} {X} state = λ unknown members now number sent before frame is.
    let versions = state.versions_in (carries unknown frame) in
    subst (λ (flight : Option (SentFrame X)). IsSomeAnd flight (λ f. All (Contains f.versions) versions)) (sym is) (All-contains_itself versions)

pub starts_go_on : {K X : Type 0} (state : StateOf K X) → StartsGoOn state
starts_go_on state = λ m place now kept gone. record {
  map = λ key. gone.map key ∙ sym (ap (λ held. held key) (map_of-append state.seen state.cmp m.saved ((Passed, now) ∷ [])));
  last = sym (last-one m.saved Passed now);
}
