-- Statements about versions of one state, as statements about deliveries.
use Rattle.std.proofs.Common.{◌≡◌, ℕ, List, [], ◌∷◌, ◌++◌, Bool, true, false, zero, suc, map, take, ap, refl, sym, ◌∙◌}
use Rattle.std.specs.Prelude.{Option, Result, Ok, Err}
use Rattle.std.specs.Ordering.{nat_cmp}
use Rattle.std.specs.Cmp.Lexicographic.{slice_cmp}
use Rattle.am_wire.specs.Inputs.{messages_of}
use Rattle.am_wire.specs.declared.unknown.Unknown.{Unknown}
use Rattle.am_silence.specs.Mesh.{Mesh, mesh_version}
use Rattle.am_silence.specs.MeshTable.{reads_mesh_silence}
use Rattle.am_nflog.specs.Mesh.{Mesh as LogMesh, mesh_version as entry_version}
use Rattle.am_nflog.specs.MeshTable.{reads_mesh_entry}
use Rattle.am_nflog.specs.Keys.{key_cmp}
use Rattle.am_nflog.specs.LogKeys.{LogKey}
use Rattle.am_gossip.specs.declared.frame.Part.{Part}
use Rattle.am_gossip.specs.declared.frame.StateKey.TheVariants.{Sil, Nfl}
use Rattle.am_collect.specs.Events.{after, after_all}
use Rattle.am_collect.specs.Events.MapEvent.{Delivered}
use Rattle.am_instance.specs.Deliveries.{read_as, before_fault, first_fault, rows_of}
use Rattle.am_instance.specs.Deliveries.Delivery.{OfSilence, OfEntry}
use Rattle.am_instance.specs.InstanceStates.{InstanceState, silence_at, entry_at}
use Rattle.am_instance.specs.Changes.{changes, only_if, changed, changed_of, takings, silences_after, log_after}
use Rattle.am_instance.specs.Sendings.{deltas_to, deltas_of, addressed, delta_of}
use Rattle.am_instance.specs.Steps.{Delivers}

pub before_fault_read : {A B E : Type 0} (f : A → B) (items : List (Result A E)) → before_fault (map (read_as f) items) ≡ map f (before_fault items)
before_fault_read f [] = refl
before_fault_read f (Ok x ∷ items) = ap (λ xs. f x ∷ xs) (before_fault_read f items)
before_fault_read f (Err e ∷ items) = refl

pub first_fault_read : {A B E : Type 0} (f : A → B) (items : List (Result A E)) → first_fault (map (read_as f) items) ≡ first_fault items
first_fault_read f [] = refl
first_fault_read f (Ok x ∷ items) = first_fault_read f items
first_fault_read f (Err e ∷ items) = refl

-- ---- the rows of a part

pub rows_by_key : (unknown : Unknown) (part : Part) → part.key ≡ Sil → rows_of unknown part ≡ map (read_as OfSilence) (messages_of (reads_mesh_silence unknown) part.bytes)
unfolding rows_of
rows_by_key unknown part is = rw is refl

pub log_rows_by_key : (unknown : Unknown) (part : Part) → part.key ≡ Nfl → rows_of unknown part ≡ map (read_as OfEntry) (messages_of (reads_mesh_entry unknown) part.bytes)
unfolding rows_of
log_rows_by_key unknown part is = rw is refl

pub silence_rows : (unknown : Unknown) (part : Part) → part.key ≡ Sil → before_fault (rows_of unknown part) ≡ map OfSilence (before_fault (messages_of (reads_mesh_silence unknown) part.bytes))
silence_rows unknown part is = ap before_fault (rows_by_key unknown part is) ∙ before_fault_read OfSilence (messages_of (reads_mesh_silence unknown) part.bytes)

pub silence_fault : (unknown : Unknown) (part : Part) → part.key ≡ Sil → first_fault (rows_of unknown part) ≡ first_fault (messages_of (reads_mesh_silence unknown) part.bytes)
silence_fault unknown part is = ap first_fault (rows_by_key unknown part is) ∙ first_fault_read OfSilence (messages_of (reads_mesh_silence unknown) part.bytes)

pub log_rows : (unknown : Unknown) (part : Part) → part.key ≡ Nfl → before_fault (rows_of unknown part) ≡ map OfEntry (before_fault (messages_of (reads_mesh_entry unknown) part.bytes))
log_rows unknown part is = ap before_fault (log_rows_by_key unknown part is) ∙ before_fault_read OfEntry (messages_of (reads_mesh_entry unknown) part.bytes)

pub log_fault : (unknown : Unknown) (part : Part) → part.key ≡ Nfl → first_fault (rows_of unknown part) ≡ first_fault (messages_of (reads_mesh_entry unknown) part.bytes)
log_fault unknown part is = ap first_fault (log_rows_by_key unknown part is) ∙ first_fault_read OfEntry (messages_of (reads_mesh_entry unknown) part.bytes)

-- ---- the maps

silences_lift : (now : ℕ) (m : List ℕ → Option Mesh) (vs : List Mesh) → silences_after now m (map OfSilence vs) ≡ after_all mesh_version (slice_cmp nat_cmp) m (takings now vs)
silences_lift now m [] = refl
silences_lift now m (v ∷ vs) = silences_lift now (after mesh_version (slice_cmp nat_cmp) m (Delivered v) now) vs

log_idle : (now : ℕ) (l : LogKey → Option LogMesh) (vs : List Mesh) → log_after now l (map OfSilence vs) ≡ l
log_idle now l [] = refl
log_idle now l (v ∷ vs) = log_idle now l vs

log_lift : (now : ℕ) (l : LogKey → Option LogMesh) (es : List LogMesh) → log_after now l (map OfEntry es) ≡ after_all entry_version key_cmp l (takings now es)
log_lift now l [] = refl
log_lift now l (e ∷ es) = log_lift now (after entry_version key_cmp l (Delivered e) now) es

silences_idle : (now : ℕ) (m : List ℕ → Option Mesh) (es : List LogMesh) → silences_after now m (map OfEntry es) ≡ m
silences_idle now m [] = refl
silences_idle now m (e ∷ es) = silences_idle now m es

pub delivers_silences : (now : ℕ) (vs : List Mesh) (old new : InstanceState) → new.config ≡ old.config → new.last ≡ old.last → new.log ≡ old.log →
    ((key : List ℕ) → silence_at new.silences key ≡ after_all mesh_version (slice_cmp nat_cmp) (silence_at old.silences) (takings now vs) key) → Delivers now (map OfSilence vs) old new
delivers_silences now vs old new config last log taken = record {
  config = config;
  last = last;
  silences = (λ i key. taken key i) ∙ sym (silences_lift now (silence_at old.silences) vs);
  log = ap entry_at log ∙ sym (log_idle now (entry_at old.log) vs);
}

pub delivers_entries : (now : ℕ) (es : List LogMesh) (old new : InstanceState) → new.config ≡ old.config → new.last ≡ old.last → new.silences ≡ old.silences →
    ((key : LogKey) → entry_at new.log key ≡ after_all entry_version key_cmp (entry_at old.log) (takings now es) key) → Delivers now (map OfEntry es) old new
delivers_entries now es old new config last silences taken = record {
  config = config;
  last = last;
  silences = ap silence_at silences ∙ sym (silences_idle now (silence_at old.silences) es);
  log = (λ i key. taken key i) ∙ sym (log_lift now (entry_at old.log) es);
}

-- ---- what changes, and is sent

only_if_map : {A B : Type 0} (f : A → B) (test : Bool) (x : A) (xs : List A) (ys : List B) → ys ≡ map f xs → only_if test (f x) ++ ys ≡ map f (only_if test x ++ xs)
only_if_map f true x xs ys same = ap (λ zs. f x ∷ zs) same
only_if_map f false x xs ys same = same

pub changed_silences : (now : ℕ) (m : List ℕ → Option Mesh) (l : LogKey → Option LogMesh) (vs : List Mesh) →
    changed_of now m l (map OfSilence vs) ≡ map OfSilence (changed mesh_version (slice_cmp nat_cmp) now m vs)
changed_silences now m l [] = refl
changed_silences now m l (v ∷ vs) =
    only_if_map OfSilence (changes mesh_version now m v) v _ _ (changed_silences now (after mesh_version (slice_cmp nat_cmp) m (Delivered v) now) l vs)

pub changed_entries : (now : ℕ) (m : List ℕ → Option Mesh) (l : LogKey → Option LogMesh) (es : List LogMesh) →
    changed_of now m l (map OfEntry es) ≡ map OfEntry (changed entry_version key_cmp now l es)
changed_entries now m l [] = refl
changed_entries now m l (e ∷ es) =
    only_if_map OfEntry (changes entry_version now l e) e _ _ (changed_entries now m (after entry_version key_cmp l (Delivered e) now) es)

deltas_silences : (places : List ℕ) (vs : List Mesh) → deltas_to places (map OfSilence vs) ≡ deltas_of mesh_version Sil places vs
deltas_silences places [] = refl
deltas_silences places (v ∷ vs) = ap (λ fs. addressed places (delta_of (OfSilence v)) ++ fs) (deltas_silences places vs)

deltas_entries : (places : List ℕ) (es : List LogMesh) → deltas_to places (map OfEntry es) ≡ deltas_of entry_version Nfl places es
deltas_entries places [] = refl
deltas_entries places (e ∷ es) = ap (λ fs. addressed places (delta_of (OfEntry e)) ++ fs) (deltas_entries places es)

pub sent_silences : (places : List ℕ) (now : ℕ) (m : List ℕ → Option Mesh) (l : LogKey → Option LogMesh) (vs : List Mesh) →
    deltas_of mesh_version Sil places (changed mesh_version (slice_cmp nat_cmp) now m vs) ≡ deltas_to places (changed_of now m l (map OfSilence vs))
sent_silences places now m l vs = sym (ap (deltas_to places) (changed_silences now m l vs) ∙ deltas_silences places (changed mesh_version (slice_cmp nat_cmp) now m vs))

pub sent_entries : (places : List ℕ) (now : ℕ) (m : List ℕ → Option Mesh) (l : LogKey → Option LogMesh) (es : List LogMesh) →
    deltas_of entry_version Nfl places (changed entry_version key_cmp now l es) ≡ deltas_to places (changed_of now m l (map OfEntry es))
sent_entries places now m l es = sym (ap (deltas_to places) (changed_entries now m l es) ∙ deltas_entries places (changed entry_version key_cmp now l es))

pub take_map : {A B : Type 0} (f : A → B) (n : ℕ) (xs : List A) → take n (map f xs) ≡ map f (take n xs)
take_map f zero xs = refl
take_map f (suc n) [] = refl
take_map f (suc n) (x ∷ xs) = ap (λ ys. f x ∷ ys) (take_map f n xs)
