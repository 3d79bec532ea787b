-- Laws of the steps of instances as steps of a run, for one of the states.
use Rattle.std.specs.Prelude.{◌≡◌, ◌≢◌, ◌++◌, [], ◌∷◌, List, ℕ, map, All, Some, true, IfOk, Result, slice_get}
use Rattle.am_wire.specs.declared.unknown.Unknown.{Unknown}
use Rattle.am_gossip.specs.declared.frame.Frame.{Frame}
use Rattle.am_gossip.specs.declared.frame.Frame.TheVariants.{Pull}
use Rattle.am_collect.specs.Kept.{Kept}
use Rattle.am_runs.specs.declared.step.DeliverySource.{DeliverySource}
use Rattle.am_runs.specs.declared.step.DeliverySource.TheVariants.{Arrived, Lent}
use Rattle.am_runs.specs.Steps.{RunStep, flights_of}
use Rattle.am_runs.specs.Steps.RunStep.{Started}
use Rattle.am_runs.specs.Members.{Member, member_of, stepped}
use Rattle.am_runs.specs.Runs.{AreFrom, IsPossible}
use Rattle.am_instance.specs.declared.event.Event.{Event}
use Rattle.am_gossip.specs.declared.refusals.StepError.{StepError}
use Rattle.am_instance.specs.declared.reply.Outcome.{Outcome}
use Rattle.am_instance.specs.Deliveries.{Delivery}
use Rattle.am_instance.specs.Deliveries.Delivery.{OfSilence, OfEntry}
use Rattle.am_instance.specs.InstanceStates.{InstanceState, HoldsWhole}
use Rattle.am_instance.specs.Steps.{counts}
use Rattle.am_instance.specs.OneStep.{IsStep}
use Rattle.am_instance.specs.Sendings.{whole_state}
use Rattle.am_instance.specs.Laws.{HasMaps}
use Rattle.am_cluster.specs.BothStates.{StateOf}
use Rattle.am_cluster.specs.Contents.{carries, IsReadable}
use Rattle.am_cluster.specs.Recorded.{AreInFlight, AreValues, HasGoneThrough, HasSource, event_step, flights_in}

module _ {K X : Type 0} (state : StateOf K X) where
  -- after a step, a member's map is what its past with the recorded step leaves
  abbrev pub MembersGoOn : Type 0
  MembersGoOn =
      (m : Member X) (place now : ℕ) (source : DeliverySource) (old new : InstanceState) (event : Event) (answer : Result Outcome StepError)
      (frames : List (ℕ × Frame)) →
      HasGoneThrough state m.past (state.kept old) → IsStep old event now answer new →
      HasGoneThrough state (stepped m (event_step state old.config.unknown place now source event answer frames)).past (state.kept new)

  -- a recorded step changes the member at its place
  abbrev pub OwnMemberChanges : Type 0
  OwnMemberChanges =
      (unknown : Unknown) (members place now : ℕ) (source : DeliverySource) (before : List (RunStep X)) (event : Event) (answer : Result Outcome StepError)
      (frames : List (ℕ × Frame)) →
      let step = event_step state unknown place now source event answer frames in
      member_of members place (before ++ step ∷ []) ≡ stepped (member_of members place before) step

  -- a recorded step changes no other member
  abbrev pub OthersStay : Type 0
  OthersStay =
      (unknown : Unknown) (members place other now : ℕ) (source : DeliverySource) (before : List (RunStep X)) (event : Event) (answer : Result Outcome StepError)
      (frames : List (ℕ × Frame)) →
      place ≢ other →
      member_of members other (before ++ event_step state unknown place now source event answer frames ∷ []) ≡ member_of members other before

  -- a member that is started has the map that was saved of it, from the moment of the start
  abbrev pub StartsGoOn : Type 0
  StartsGoOn =
      (m : Member X) (place now : ℕ) (kept : Kept X) → HasGoneThrough state m.saved kept →
      HasGoneThrough state (stepped m (Started place now)).past (record { held = kept.held; last = now })

  -- a step of an instance that is a member of a run can have happened in it
  abbrev pub StepsArePossible : Type 0
  StepsArePossible =
      (members place now : ℕ) (before : List (RunStep X)) (source : DeliverySource) (old new : InstanceState) (event : Event)
      (answer : Result Outcome StepError) (frames : List (ℕ × Frame)) →
      let member = member_of members place before in
      (counts answer ≡ true → member.runs ≡ true) →
      HasGoneThrough state member.past (state.kept old) → IsStep old event now answer new →
      HasSource state old.config.unknown members before now event source →
      HoldsWhole old → AreInFlight answer frames → IfOk answer (λ outcome. AreValues old.config.unknown event outcome new) →
      IsPossible state.seen state.cmp members before (event_step state old.config.unknown place now source event answer frames)

  -- the versions that a Pull of the maps of a running member brings come from that member
  abbrev pub LentMapsAreItsLenders : Type 0
  LentMapsAreItsLenders =
      (unknown : Unknown) (members lender now : ℕ) (before : List (RunStep X)) (lent : InstanceState) → (member_of members lender before).runs ≡ true →
      HasGoneThrough state (member_of members lender before).past (state.kept lent) → HasMaps lent →
      All (IsReadable unknown) (map OfSilence lent.silences) → All (IsReadable unknown) (map OfEntry lent.log) →
      AreFrom state.seen state.cmp members before now (Lent lender)
      (state.versions_in (carries unknown (Pull (whole_state lent.silences lent.log))))

  -- the frames that a step left in flight are the flights that its recorded step adds
  abbrev pub FramesAreFlights : Type 0
  FramesAreFlights =
      (place now : ℕ) (before : List (RunStep X)) (source : DeliverySource) (old new : InstanceState) (event : Event)
      (answer : Result Outcome StepError) (frames : List (ℕ × Frame)) →
      IsStep old event now answer new → AreInFlight answer frames →
      flights_of (before ++ event_step state old.config.unknown place now source event answer frames ∷ []) ≡ flights_of before ++ flights_in state old.config.unknown now frames

  -- the versions that a frame brings come from its flight
  abbrev pub FramesComeFromFlights : Type 0
  FramesComeFromFlights =
      (unknown : Unknown) (members now number sent : ℕ) (before : List (RunStep X)) (frame : Frame) →
      slice_get (flights_of before) number ≡ Some (record { sent = sent; versions = state.versions_in (carries unknown frame) }) →
      AreFrom state.seen state.cmp members before now (Arrived number) (state.versions_in (carries unknown frame))

  -- if versions come behind others, the state's own come behind the state's own of the others
  abbrev pub VersionsStayInOrder : Type 0
  VersionsStayInOrder = (ds es : List Delivery) → state.versions_in (ds ++ es) ≡ state.versions_in ds ++ state.versions_in es
