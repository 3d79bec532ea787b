-- The versions in the frames that a step sent.
use Rattle.std.proofs.Common.{◌≡◌, ◌⊎◌, inl, inr, ℕ, List, [], ◌∷◌, ◌++◌, Bool, true, false, refl, sym, subst}
use Rattle.std.specs.Prelude.{All, Contains, Option, slice_index_or}
use Rattle.std.proofs.lemmas.List.Elements.{All-nil, All-cons, All-head, All-tail, All-append, All-contains_itself, Contains-append_left, Contains-append_right}
use Rattle.am_wire.specs.declared.unknown.Unknown.{Unknown}
use Rattle.am_wire.specs.Unknown.{StaysWhole}
use Rattle.am_silence.specs.Mesh.{Mesh, IsMesh, mesh_version, without_unknown}
use Rattle.am_nflog.specs.Mesh.{Mesh as LogMesh, IsMesh as IsLogMesh, mesh_version as entry_version, without_unknown as entry_without_unknown}
use Rattle.am_nflog.specs.LogKeys.{LogKey}
use Rattle.am_gossip.specs.declared.frame.Frame.{Frame}
use Rattle.am_gossip.specs.declared.frame.Frame.TheVariants as frames
use Rattle.am_gossip.specs.Frames.{fits}
use Rattle.am_instance.specs.declared.event.Event.{Event}
use Rattle.am_instance.specs.declared.event.Event.TheVariants as events
use Rattle.am_instance.specs.Deliveries.{Delivery, IsWhole}
use Rattle.am_instance.specs.Deliveries.Delivery.{OfSilence, OfEntry}
use Rattle.am_instance.specs.Changes.{changes, changed_of, only_if}
use Rattle.am_instance.specs.Sendings.{IsSent, Sends, Sent, addressed, delta_of, deltas_to, one_more, whole_state}
use Rattle.am_instance.specs.InstanceStates.{InstanceState}
use Rattle.am_instance.specs.Steps.{last_wanted}
use Rattle.am_collect.specs.Events.{after}
use Rattle.am_collect.specs.Events.MapEvent.{Delivered}
use Rattle.am_nflog.specs.Keys.{key_cmp}
use Rattle.std.specs.Ordering.{nat_cmp}
use Rattle.std.specs.Cmp.Lexicographic.{slice_cmp}
use Rattle.am_cluster.specs.BothStates.{StateOf}
use Rattle.am_cluster.specs.Contents.{carries, held_in, IsValue}
use Rattle.am_cluster.proofs.RoundTrip.{delta_carries, delta_readable, whole_carries, whole_readable}
use Rattle.am_cluster.specs.Recorded.{sent_in}
use Rattle.am_cluster.proofs.States.{IsStateOf}

-- ---- what was handed out was wanted, and kept its limit

module _ (P : ℕ × Frame → Type 0) where
  -- it holds of a frame, where that keeps its limit
  abbrev pub IfFits : ℕ × Frame → Type 0
  IfFits wanted = fits wanted.1 ≡ true → P wanted

  one_sent : (wanted : ℕ × Frame) (fitting : Bool) (old new : Sent) → fits wanted.1 ≡ fitting → IfFits wanted → All P old.frames → IsSent wanted old new → All P new.frames
  one_sent wanted true old new is holds all sent = by_end (sent.fitting is)
    where
      by_end : (new ≡ record old { frames = old.frames ++ wanted ∷ [] }) ⊎ (new ≡ record old { memory = one_more old.memory }) → All P new.frames
      by_end (inl handed) = subst (λ (s : Sent). All P s.frames) (sym handed) (All-append P old.frames (wanted ∷ []) all (All-cons P wanted [] (holds is) (All-nil P)))
      by_end (inr lost) = subst (λ (s : Sent). All P s.frames) (sym lost) all
  one_sent wanted false old new is holds all sent = subst (λ (s : Sent). All P s.frames) (sym (sent.too_long is)) all

  pub all_sent : (ws : List (ℕ × Frame)) (old new : Sent) → All IfFits ws → All P old.frames → Sends ws old new → All P new.frames
  all_sent [] old new holds all sent = subst (λ (s : Sent). All P s.frames) (sym sent) all
  all_sent (w ∷ ws) old new holds all sent =
      all_sent ws sent.0 new (All-tail IfFits w ws holds) (one_sent w (fits w.1) old sent.0 refl (All-head IfFits w ws holds) all sent.1) sent.2

  -- ---- the Deltas
  module _ (frame : Frame) (holds : (place : ℕ) → fits frame ≡ true → P (place, frame)) where
    all_addressed : (places : List ℕ) → All IfFits (addressed places frame)
    all_addressed [] = All-nil IfFits
    all_addressed (place ∷ places) = All-cons IfFits (place, frame) (addressed places frame) (holds place) (all_addressed places)

  abbrev pub Delta_holds : Delivery → Type 0
  Delta_holds d = (place : ℕ) → fits (delta_of d) ≡ true → P (place, delta_of d)

  pub all_deltas : (places : List ℕ) (ds : List Delivery) → All Delta_holds ds → All IfFits (deltas_to places ds)
  all_deltas places [] holds = All-nil IfFits
  all_deltas places (d ∷ ds) holds =
      All-append IfFits (addressed places (delta_of d)) (deltas_to places ds) (all_addressed (delta_of d) (All-head Delta_holds d ds holds) places)
      (all_deltas places ds (All-tail Delta_holds d ds holds))

  -- ---- both maps
  one_wanted : (place : ℕ) (frame : Frame) → (fits frame ≡ true → P (place, frame)) → All IfFits ((place, frame) ∷ [])
  one_wanted place frame holds = All-cons IfFits (place, frame) [] holds (All-nil IfFits)

  pub last_holds : (event : Event) (new : InstanceState)
      → ((place : ℕ) → fits (frames.Pull (whole_state new.silences new.log)) ≡ true → P (place, frames.Pull (whole_state new.silences new.log)))
      → ((place : ℕ) → fits (frames.Push (whole_state new.silences new.log)) ≡ true → P (place, frames.Push (whole_state new.silences new.log)))
      → All IfFits (last_wanted event new)
  last_holds (events.Request request) new pull push = All-nil IfFits
  last_holds (events.Frame sender (frames.Delta part)) new pull push = All-nil IfFits
  last_holds (events.Frame sender (frames.Push parts)) new pull push = one_wanted sender (frames.Pull (whole_state new.silences new.log)) (pull sender)
  last_holds (events.Frame sender (frames.Pull parts)) new pull push = All-nil IfFits
  last_holds (events.Frame sender frames.Tick) new pull push = All-nil IfFits
  last_holds (events.Notified group_key receiver firing resolved repeat) new pull push = All-nil IfFits
  last_holds (events.Decide group_key receiver firing resolved repeat send_resolved) new pull push = All-nil IfFits
  last_holds (events.Mutes labels) new pull push = All-nil IfFits
  last_holds events.Show new pull push = All-nil IfFits
  last_holds events.Tick new pull push = All-nil IfFits
  last_holds (events.PullFrom place) new pull push = one_wanted place (frames.Push (whole_state new.silences new.log)) (push place)

-- ---- what holds of all versions holds of those that change a map
values_only : (P : Delivery → Type 0) (test : Bool) (d : Delivery) (ds : List Delivery) → P d → All P ds → All P (only_if test d ++ ds)
values_only P true d ds is are = All-cons P d ds is are
values_only P false d ds is are = are

pub changed_values : (P : Delivery → Type 0) (now : ℕ) (silences : List ℕ → Option Mesh) (log : LogKey → Option LogMesh) (ds : List Delivery) → All P ds → All P (changed_of now silences log ds)
changed_values P now silences log [] are = All-nil P
changed_values P now silences log (OfSilence v ∷ ds) are =
    values_only P (changes mesh_version now silences v) (OfSilence v) _ (All-head P (OfSilence v) ds are)
    (changed_values P now (after mesh_version (slice_cmp nat_cmp) silences (Delivered v) now) log ds (All-tail P (OfSilence v) ds are))
changed_values P now silences log (OfEntry e ∷ ds) are =
    values_only P (changes entry_version now log e) (OfEntry e) _ (All-head P (OfEntry e) ds are)
    (changed_values P now silences (after entry_version key_cmp log (Delivered e) now) ds (All-tail P (OfEntry e) ds are))

-- ---- of one state
module _ {K X : Type 0} {state : StateOf K X} (facts : IsStateOf state) where
  -- what of one delivery is the state's own is among what of all of them is
  abbrev IsPickedOf : List Delivery → Delivery → Type 0
  IsPickedOf ds d = All (Contains (state.versions_in ds)) (state.versions_in (d ∷ []))

  pub each_picked : (ds : List Delivery) → All (IsPickedOf ds) ds
  each_picked [] = All-nil (IsPickedOf [])
  each_picked (d ∷ ds) =
      let split : state.versions_in (d ∷ ds) ≡ state.versions_in (d ∷ []) ++ state.versions_in ds = facts.append (d ∷ []) ds in
      All-cons (IsPickedOf (d ∷ ds)) d ds
      (λ k x within. subst (λ (xs : List X). Contains xs (slice_index_or (state.versions_in (d ∷ [])) k x)) (sym split)
      (Contains-append_left (state.versions_in (d ∷ [])) (state.versions_in ds) _ (All-contains_itself (state.versions_in (d ∷ [])) k x within)))
      (λ k e within j x inside. subst (λ (xs : List X). Contains xs (slice_index_or (state.versions_in (slice_index_or ds k e ∷ [])) j x)) (sym split)
      (Contains-append_right (state.versions_in (d ∷ [])) (state.versions_in ds) _ (each_picked ds k e within j x inside)))

  -- each version in a frame is among those that changed the map, or is held
  module _ (unknown : Unknown) (Held : X → Type 0) (cs : List Delivery) (changed : List X) (same : state.versions_in cs ≡ changed) where
    abbrev pub IsKnown : X → Type 0
    IsKnown v = Contains changed v ⊎ Held v

    abbrev pub AreKnown : ℕ × Frame → Type 0
    AreKnown frame = All IsKnown (state.versions_in (carries unknown frame.1))

    delta_known : (d : Delivery) → IsValue d → IsWhole unknown d → IsPickedOf cs d → Delta_holds AreKnown d
    delta_known d value whole among place fitting =
        subst (λ (ds : List Delivery). All IsKnown (state.versions_in ds)) (sym (delta_carries unknown d (delta_readable unknown d value whole fitting)))
        (λ k x within. inl (subst (λ (xs : List X). Contains xs (slice_index_or (state.versions_in (d ∷ [])) k x)) same (among k x within)))

    pub deltas_known : All IsValue cs → All (IsWhole unknown) cs → All (Delta_holds AreKnown) cs
    deltas_known values whole k d within = delta_known _ (values k d within) (whole k d within) (each_picked cs k d within)

    module _ (new : InstanceState) (held : List X) (parted : state.versions_in (held_in new.silences new.log) ≡ held) (all_held : All Held held) (is : All IsMesh new.silences) (are : All IsLogMesh new.log)
        (silences_whole : All (StaysWhole without_unknown unknown) new.silences) (log_whole : All (StaysWhole entry_without_unknown unknown) new.log) where
      all_known : All IsKnown (state.versions_in (held_in new.silences new.log))
      all_known = subst (All IsKnown) (sym parted) (λ k x within. inr (all_held k x within))

      pub pull_known : (place : ℕ) → fits (frames.Pull (whole_state new.silences new.log)) ≡ true → AreKnown (place, frames.Pull (whole_state new.silences new.log))
      pull_known place fitting =
          let both = whole_readable unknown new.silences new.log is are silences_whole log_whole fitting in
          subst (λ (ds : List Delivery). All IsKnown (state.versions_in ds)) (sym (whole_carries unknown new.silences new.log both.0 both.1)) all_known

      pub push_known : (place : ℕ) → fits (frames.Push (whole_state new.silences new.log)) ≡ true → AreKnown (place, frames.Push (whole_state new.silences new.log))
      push_known place fitting =
          let both = whole_readable unknown new.silences new.log is are silences_whole log_whole fitting in
          subst (λ (ds : List Delivery). All IsKnown (state.versions_in ds)) (sym (whole_carries unknown new.silences new.log both.0 both.1)) all_known

-- said of the lists of versions
pub all_picked : {K X : Type 0} (state : StateOf K X) (unknown : Unknown) (P : List X → Type 0) (fs : List (ℕ × Frame)) → All (λ frame. P (state.versions_in (carries unknown frame.1))) fs → All P (sent_in state unknown fs)
all_picked state unknown P [] all = All-nil P
all_picked state unknown P (f ∷ fs) all =
    let Q : ℕ × Frame → Type 0 = λ frame. P (state.versions_in (carries unknown frame.1)) in
    All-cons P (state.versions_in (carries unknown f.1)) (sent_in state unknown fs) (All-head Q f fs all) (all_picked state unknown P fs (All-tail Q f fs all))
