-- Versions of one state among those of both.
use Rattle.std.proofs.Common.{◌≡◌, ℕ, List, [], ◌∷◌, ◌++◌, Bool, true, false, Option, map, ap, refl, ◌∙◌}
use Rattle.std.specs.Prelude.{All, Some, Result}
use Rattle.std.specs.Ordering.{nat_cmp}
use Rattle.std.specs.Cmp.Lexicographic.{slice_cmp}
use Rattle.std.proofs.lemmas.Cmp.{nat_cmp_total, nat_list_cmp_total, on_total, then_total}
use Rattle.std.proofs.lemmas.List.Elements.{All-contains_itself}
use Rattle.std.proofs.lemmas.Map.Lookups.{exact_bytes}
use Rattle.am_silence.specs.Mesh.{Mesh, mesh_version}
use Rattle.am_nflog.specs.Mesh.{Mesh as LogMesh, mesh_version as entry_version}
use Rattle.am_nflog.specs.Keys.{exact_keys, key_cmp}
use Rattle.am_nflog.specs.LogKeys.{LogKey}
use Rattle.am_merge.specs.Maps.{IsMap, at}
use Rattle.am_merge.proofs.Keys.{IsKeyOrder, key_order}
use Rattle.am_merge.proofs.Puts.{at-member}
use Rattle.am_collect.specs.Events.{MapEvent, Events, after, after_all, last_moment}
use Rattle.am_collect.specs.Events.MapEvent.{Delivered}
use Rattle.am_collect.specs.Keepers.{IsLeftBy}
use Rattle.am_runs.specs.Runs.{changed}
use Rattle.am_instance.specs.declared.event.Event.{Event}
use Rattle.am_gossip.specs.declared.refusals.StepError.{StepError}
use Rattle.am_instance.specs.declared.reply.Made.{Made}
use Rattle.am_instance.specs.declared.reply.Outcome.{Outcome}
use Rattle.am_instance.specs.Deliveries.{Delivery, to_silences, to_log}
use Rattle.am_instance.specs.Deliveries.Delivery.{OfSilence, OfEntry}
use Rattle.am_instance.specs.Changes.{changes, changed_of, only_if}
use Rattle.am_instance.specs.InstanceStates.{InstanceState, entry_at, silence_at}
use Rattle.am_instance.specs.Laws.{HasMaps}
use Rattle.am_instance.specs.OneStep.{IsStep}
use Rattle.am_instance.specs.Steps.{made_here, step_events}
use Rattle.am_cluster.specs.BothStates.{StateOf, log_state, silence_state}
use Rattle.am_cluster.specs.Contents.{held_in, silences_in, entries_in}
use Rattle.am_cluster.proofs.Making.{MadeNow, entries_now, silences_now}
use Rattle.am_cluster.proofs.Parting.{silences_append, entries_append}
use Rattle.am_cluster.proofs.RoundTrip.{entries_parted, silences_parted}

-- versions taken one after the other
abbrev pub takings : {X : Type 0} → ℕ → List X → Events X
takings now vs = map (λ v. (Delivered v, now)) vs

-- versions of both states, as the events that they are to one of the maps
abbrev pub arrivals : {X : Type 0} → (Delivery → MapEvent X) → ℕ → List Delivery → Events X
arrivals event_of now ds = map (λ d. (event_of d, now)) ds

-- The facts about a state: the order of its keys, its own among versions of both states, that versions of the other one change nothing
-- of its map, and its map in an instance before a step and after it.
pub record IsStateOf {K X : Type 0} (state : StateOf K X) : Type 0 where
  pub keys : IsKeyOrder state.cmp
  pub none : state.versions_in [] ≡ []
  pub append : (ds es : List Delivery) → state.versions_in (ds ++ es) ≡ state.versions_in ds ++ state.versions_in es
  pub lift : (now : ℕ) (held : K → Option X) (ds : List Delivery) →
      after_all state.seen state.cmp held (arrivals state.event_of now ds) ≡ after_all state.seen state.cmp held (takings now (state.versions_in ds))
  pub last : (stand : InstanceState) → (state.kept stand).last ≡ stand.last
  pub maps : (stand : InstanceState) → HasMaps stand → IsMap state.seen state.cmp (state.kept stand).held
  pub parted : (stand : InstanceState) → state.versions_in (held_in stand.silences stand.log) ≡ (state.kept stand).held
  pub changes : (now : ℕ) (stand : InstanceState) (ds : List Delivery) →
      state.versions_in (changed_of now (silence_at stand.silences) (entry_at stand.log) ds)
      ≡ changed state.seen state.cmp now (at state.seen state.cmp (state.kept stand).held) (state.versions_in ds)
  pub made : (now : ℕ) (made : Made) → MadeNow now made → All (λ v. (state.seen v).updated ≡ now) (state.versions_in (made_here made))
  pub left : (old new : InstanceState) (event : Event) (now : ℕ) (answer : Result Outcome StepError) → IsStep old event now answer new →
      IsLeftBy state.seen state.cmp (state.kept old) (step_events state.event_of old.config.unknown event now answer) (state.kept new)

-- a map has each of its versions at that version's key
pub held_at : {K X : Type 0} {state : StateOf K X} → IsStateOf state → (stand : InstanceState) → HasMaps stand →
    All (λ v. at state.seen state.cmp (state.kept stand).held (state.seen v).key ≡ Some v) (state.kept stand).held
held_at {K} {X} {state} facts stand maps k v within =
    at-member state.seen state.cmp facts.keys (state.kept stand).held _ (facts.maps stand maps) (All-contains_itself (state.kept stand).held k v within)

-- all these moments are one
pub last_arrivals : {X : Type 0} (event_of : Delivery → MapEvent X) (now : ℕ) (ds : List Delivery) → last_moment now (arrivals event_of now ds) ≡ now
last_arrivals event_of now [] = refl
last_arrivals event_of now (d ∷ ds) = last_arrivals event_of now ds

-- ---- what changes a map

module _ {X : Type 0} (versions_in : List Delivery → List X) (d : Delivery) where
  own_only : (v : X) → ((ds : List Delivery) → versions_in (d ∷ ds) ≡ v ∷ versions_in ds) → (test : Bool) (ds : List Delivery) (vs : List X) → versions_in ds ≡ vs →
      versions_in (only_if test d ++ ds) ≡ only_if test v ++ vs
  own_only v own true ds vs same = own ds ∙ ap (λ ws. v ∷ ws) same
  own_only v own false ds vs same = same

  other_none : ((ds : List Delivery) → versions_in (d ∷ ds) ≡ versions_in ds) → (test : Bool) (ds : List Delivery) → versions_in (only_if test d ++ ds) ≡ versions_in ds
  other_none other true ds = other ds
  other_none other false ds = refl

-- ---- the silences

silences_lift : (now : ℕ) (held : List ℕ → Option Mesh) (ds : List Delivery) →
    after_all mesh_version (slice_cmp nat_cmp) held (arrivals to_silences now ds) ≡ after_all mesh_version (slice_cmp nat_cmp) held (takings now (silences_in ds))
silences_lift now held [] = refl
silences_lift now held (OfSilence v ∷ ds) = silences_lift now (after mesh_version (slice_cmp nat_cmp) held (Delivered v) now) ds
silences_lift now held (OfEntry e ∷ ds) = silences_lift now held ds

silences_changed : (now : ℕ) (silences : List ℕ → Option Mesh) (log : LogKey → Option LogMesh) (ds : List Delivery) →
    silences_in (changed_of now silences log ds) ≡ changed mesh_version (slice_cmp nat_cmp) now silences (silences_in ds)
silences_changed now silences log [] = refl
silences_changed now silences log (OfSilence v ∷ ds) =
    own_only silences_in (OfSilence v) v (λ es. refl) (changes mesh_version now silences v) _ _
    (silences_changed now (after mesh_version (slice_cmp nat_cmp) silences (Delivered v) now) log ds)
silences_changed now silences log (OfEntry e ∷ ds) =
    other_none silences_in (OfEntry e) (λ es. refl) (changes entry_version now log e) _ ∙ silences_changed now silences (after entry_version key_cmp log (Delivered e) now) ds

pub of_silences : IsStateOf silence_state
of_silences = record {
  keys = key_order nat_list_cmp_total exact_bytes;
  none = refl;
  append = silences_append;
  lift = silences_lift;
  last = λ stand. refl;
  maps = λ stand maps. maps.silences;
  parted = λ stand. silences_parted stand.silences stand.log;
  changes = λ now stand ds. silences_changed now (silence_at stand.silences) (entry_at stand.log) ds;
  made = silences_now;
  left = λ old new event now answer step. step.silences;
}

-- ---- the log

log_lift : (now : ℕ) (held : LogKey → Option LogMesh) (ds : List Delivery) →
    after_all entry_version key_cmp held (arrivals to_log now ds) ≡ after_all entry_version key_cmp held (takings now (entries_in ds))
log_lift now held [] = refl
log_lift now held (OfSilence v ∷ ds) = log_lift now held ds
log_lift now held (OfEntry e ∷ ds) = log_lift now (after entry_version key_cmp held (Delivered e) now) ds

log_changed : (now : ℕ) (silences : List ℕ → Option Mesh) (log : LogKey → Option LogMesh) (ds : List Delivery) →
    entries_in (changed_of now silences log ds) ≡ changed entry_version key_cmp now log (entries_in ds)
log_changed now silences log [] = refl
log_changed now silences log (OfSilence v ∷ ds) =
    other_none entries_in (OfSilence v) (λ es. refl) (changes mesh_version now silences v) _ ∙ log_changed now (after mesh_version (slice_cmp nat_cmp) silences (Delivered v) now) log ds
log_changed now silences log (OfEntry e ∷ ds) =
    own_only entries_in (OfEntry e) e (λ es. refl) (changes entry_version now log e) _ _ (log_changed now silences (after entry_version key_cmp log (Delivered e) now) ds)

entry_keys : IsKeyOrder key_cmp
entry_keys = key_order
    (then_total (on_total (λ (k : LogKey). k.group_key) nat_list_cmp_total)
    (then_total (on_total (λ (k : LogKey). k.receiver.group_name) nat_list_cmp_total)
    (then_total (on_total (λ (k : LogKey). k.receiver.integration) nat_list_cmp_total) (on_total (λ (k : LogKey). k.receiver.idx) nat_cmp_total))))
    exact_keys

pub of_log : IsStateOf log_state
of_log = record {
  keys = entry_keys;
  none = refl;
  append = entries_append;
  lift = log_lift;
  last = λ stand. refl;
  maps = λ stand maps. maps.log;
  parted = λ stand. entries_parted stand.silences stand.log;
  changes = λ now stand ds. log_changed now (silence_at stand.silences) (entry_at stand.log) ds;
  made = entries_now;
  left = λ old new event now answer step. step.log;
}
