-- Versions of both states, delivered one after the other.
use Rattle.std.proofs.Common.{◌≡◌, ℕ, ◌+◌, List, [], ◌∷◌, ◌++◌, map, length, take, ap, refl, sym, subst, ◌∙◌, append-nil, append_assoc, length-append, arith}
use Rattle.std.specs.Prelude.{Option, Some, None, Result, Ok, Err}
use Rattle.std.specs.Ordering.{nat_cmp}
use Rattle.std.specs.Cmp.Lexicographic.{slice_cmp}
use Rattle.std.proofs.lemmas.List.{map-append, take-append-le}
use Rattle.std.proofs.Math.Seq.{take-append-add}
use Rattle.am_silence.specs.Mesh.{Mesh, mesh_version}
use Rattle.am_nflog.specs.Mesh.{Mesh as LogMesh, mesh_version as entry_version}
use Rattle.am_nflog.specs.Keys.{key_cmp}
use Rattle.am_nflog.specs.LogKeys.{LogKey}
use Rattle.am_collect.specs.Events.{after, after_all}
use Rattle.am_collect.specs.Events.MapEvent.{Delivered}
use Rattle.am_instance.specs.Deliveries.{Delivery, before_fault, first_fault, to_silences, to_log}
use Rattle.am_instance.specs.Deliveries.Delivery.{OfSilence, OfEntry}
use Rattle.am_instance.specs.InstanceStates.{InstanceState, silence_at, entry_at}
use Rattle.am_instance.specs.Changes.{changes, only_if, changed_of, silences_after, log_after}
use Rattle.am_instance.specs.Sendings.{Sent, Sends, deltas_to, addressed, delta_of}
use Rattle.am_instance.specs.Steps.{Delivers, StopsDelivering}
use Rattle.am_instance.proofs.Sent.{sent_then}
use Rattle.am_instance.proofs.TakenRows.{after_all_append}

silences_then : (now : ℕ) (m : List ℕ → Option Mesh) (xs ys : List Delivery) → silences_after now m (xs ++ ys) ≡ silences_after now (silences_after now m xs) ys
silences_then now m xs ys =
    ap (after_all mesh_version (slice_cmp nat_cmp) m) (map-append (λ d. (to_silences d, now)) xs ys)
    ∙ after_all_append mesh_version (slice_cmp nat_cmp) m (map (λ d. (to_silences d, now)) xs) (map (λ d. (to_silences d, now)) ys)

log_then : (now : ℕ) (l : LogKey → Option LogMesh) (xs ys : List Delivery) → log_after now l (xs ++ ys) ≡ log_after now (log_after now l xs) ys
log_then now l xs ys =
    ap (after_all entry_version key_cmp l) (map-append (λ d. (to_log d, now)) xs ys)
    ∙ after_all_append entry_version key_cmp l (map (λ d. (to_log d, now)) xs) (map (λ d. (to_log d, now)) ys)

pub delivers_none : (now : ℕ) (stand : InstanceState) → Delivers now [] stand stand
delivers_none now stand = record { config = refl; last = refl; silences = refl; log = refl }

pub delivers_then : (now : ℕ) (xs ys : List Delivery) (a b c : InstanceState) → Delivers now xs a b → Delivers now ys b c → Delivers now (xs ++ ys) a c
delivers_then now xs ys a b c first second = record {
  config = second.config ∙ first.config;
  last = second.last ∙ first.last;
  silences = second.silences ∙ ap (λ m. silences_after now m ys) first.silences ∙ sym (silences_then now (silence_at a.silences) xs ys);
  log = second.log ∙ ap (λ l. log_after now l ys) first.log ∙ sym (log_then now (entry_at a.log) xs ys);
}

pub changed_then : (now : ℕ) (m : List ℕ → Option Mesh) (l : LogKey → Option LogMesh) (xs ys : List Delivery) →
    changed_of now m l (xs ++ ys) ≡ changed_of now m l xs ++ changed_of now (silences_after now m xs) (log_after now l xs) ys
changed_then now m l [] ys = refl
changed_then now m l (OfSilence v ∷ xs) ys =
    ap (λ zs. only_if (changes mesh_version now m v) (OfSilence v) ++ zs) (changed_then now (after mesh_version (slice_cmp nat_cmp) m (Delivered v) now) l xs ys)
    ∙ sym (append_assoc (only_if (changes mesh_version now m v) (OfSilence v)) (changed_of now (after mesh_version (slice_cmp nat_cmp) m (Delivered v) now) l xs) _)
changed_then now m l (OfEntry e ∷ xs) ys =
    ap (λ zs. only_if (changes entry_version now l e) (OfEntry e) ++ zs) (changed_then now m (after entry_version key_cmp l (Delivered e) now) xs ys)
    ∙ sym (append_assoc (only_if (changes entry_version now l e) (OfEntry e)) (changed_of now m (after entry_version key_cmp l (Delivered e) now) xs) _)

-- what is sent of some versions, and then of others
pub sends_then : (places : List ℕ) (now : ℕ) (xs ys : List Delivery) (a b : InstanceState) (s t u : Sent) → Delivers now xs a b →
    Sends (deltas_to places (changed_of now (silence_at a.silences) (entry_at a.log) xs)) s t →
    Sends (deltas_to places (changed_of now (silence_at b.silences) (entry_at b.log) ys)) t u →
    Sends (deltas_to places (changed_of now (silence_at a.silences) (entry_at a.log) (xs ++ ys))) s u
sends_then places now xs ys a b s t u delivered first second =
    let m = silence_at a.silences in
    let l = entry_at a.log in
    let whole : changed_of now m l xs ++ changed_of now (silence_at b.silences) (entry_at b.log) ys ≡ changed_of now m l (xs ++ ys) =
    ap (λ (held : List ℕ → Option Mesh). changed_of now m l xs ++ changed_of now held (entry_at b.log) ys) delivered.silences
    ∙ ap (λ (held : LogKey → Option LogMesh). changed_of now m l xs ++ changed_of now (silences_after now m xs) held ys) delivered.log
    ∙ sym (changed_then now m l xs ys) in
    subst (λ ds. Sends (deltas_to places ds) s u) whole
    (sent_then (λ d. addressed places (delta_of d)) (changed_of now m l xs) (changed_of now (silence_at b.silences) (entry_at b.log) ys) s t u first second)

-- ---- rows before and behind

pub first_fault_split : {A E : Type 0} (xs ys : List (Result A E)) → first_fault (xs ++ ys) ≡ None → (first_fault xs ≡ None) × (first_fault ys ≡ None)
first_fault_split [] ys sound = (refl, sound)
first_fault_split (Ok x ∷ xs) ys sound = first_fault_split xs ys sound
first_fault_split (Err e ∷ xs) ys sound = absurd cc

pub before_fault_then : {A E : Type 0} (xs ys : List (Result A E)) → first_fault xs ≡ None → before_fault (xs ++ ys) ≡ before_fault xs ++ before_fault ys
before_fault_then [] ys sound = refl
before_fault_then (Ok x ∷ xs) ys sound = ap (λ zs. x ∷ zs) (before_fault_then xs ys sound)
before_fault_then (Err e ∷ xs) ys sound = absurd cc

pub first_fault_then : {A E : Type 0} (xs ys : List (Result A E)) → first_fault xs ≡ None → first_fault (xs ++ ys) ≡ first_fault ys
first_fault_then [] ys sound = refl
first_fault_then (Ok x ∷ xs) ys sound = first_fault_then xs ys sound
first_fault_then (Err e ∷ xs) ys sound = absurd cc

pub first_fault_here : {A E : Type 0} (xs ys : List (Result A E)) (e : E) → first_fault xs ≡ Some e → first_fault (xs ++ ys) ≡ Some e
first_fault_here [] ys e is = absurd cc
first_fault_here (Ok x ∷ xs) ys e is = first_fault_here xs ys e is
first_fault_here (Err d ∷ xs) ys e is = is

-- the first rows were taken and counted, and those that changed a map were sent; these are left
pub record HasDelivered {E : Type 0} (places : List ℕ) (now : ℕ) (old : InstanceState) (all : List Delivery) (left : List (Result Delivery E)) (new : InstanceState) (before count : ℕ) (unsent sent : Sent) : Type 0 where
  pub done : List Delivery
  pub whole : done ++ before_fault left ≡ all
  pub sound : first_fault left ≡ None
  pub counted : count ≡ before + length done
  pub delivered : Delivers now done old new
  pub sends : Sends (deltas_to places (changed_of now (silence_at old.silences) (entry_at old.log) done)) unsent sent

module _ {E : Type 0} (places : List ℕ) (now : ℕ) (old : InstanceState) (all : List Delivery) where
  pub begins : (items : List (Result Delivery E)) (n : ℕ) (sent : Sent) → all ≡ before_fault items → first_fault items ≡ None → HasDelivered places now old all items old n n sent sent
  begins items n sent is sound = record { done = []; whole = sym is; sound = sound; counted = omega arith; delivered = delivers_none now old; sends = refl }

  pub goes_on : (left rows rest : List (Result Delivery E)) (mid new : InstanceState) (before count more : ℕ) (a b c : Sent) (here : List ℕ) →
      HasDelivered places now old all left mid before count a b → left ≡ rows ++ rest → here ≡ places →
      Delivers now (before_fault rows) mid new → more ≡ count + length (before_fault rows) →
      Sends (deltas_to here (changed_of now (silence_at mid.silences) (entry_at mid.log) (before_fault rows))) b c →
      HasDelivered places now old all rest new before more a c
  goes_on left rows rest mid new before count more a b c here so_far is same delivered counted sends =
      let sent = subst (λ ps. Sends (deltas_to ps (changed_of now (silence_at mid.silences) (entry_at mid.log) (before_fault rows))) b c) same sends in
      let done = so_far.done in
      let sound = first_fault_split rows rest (ap first_fault (sym is) ∙ so_far.sound) in
      let size = length-append done (before_fault rows) in
      let sum = so_far.counted in
      record {
        done = done ++ before_fault rows;
        whole = append_assoc done (before_fault rows) (before_fault rest)
            ∙ ap (λ items. done ++ items) (sym (ap before_fault is ∙ before_fault_then rows rest sound.0)) ∙ so_far.whole;
        sound = sound.1;
        counted = omega (arith, size, counted, sum);
        delivered = delivers_then now done (before_fault rows) old mid new so_far.delivered delivered;
        sends = sends_then places now done (before_fault rows) old mid a b c so_far.delivered so_far.sends sent;
      }

  pub ends : (left : List (Result Delivery E)) (new : InstanceState) (before count : ℕ) (a b : Sent) → HasDelivered places now old all left new before count a b → left ≡ [] →
      Delivers now all old new × (count ≡ before + length all) × Sends (deltas_to places (changed_of now (silence_at old.silences) (entry_at old.log) all)) a b
  ends left new before count a b so_far none =
      let whole : so_far.done ≡ all = sym (append-nil so_far.done) ∙ ap (λ items. so_far.done ++ before_fault items) (sym none) ∙ so_far.whole in (
        subst (λ xs. Delivers now xs old new) whole so_far.delivered,
        subst (λ xs. count ≡ before + length xs) whole so_far.counted,
        subst (λ xs. Sends (deltas_to places (changed_of now (silence_at old.silences) (entry_at old.log) xs)) a b) whole so_far.sends,
      )

  pub stops : (left rows rest : List (Result Delivery E)) (mid new : InstanceState) (before count stopped : ℕ) (a b : Sent) →
      HasDelivered places now old all left mid before count a b → left ≡ rows ++ rest →
      StopsDelivering now (before_fault rows) mid new count stopped → StopsDelivering now all old new before stopped
  stops left rows rest mid new before count stopped a b so_far is stop =
      let done = so_far.done in
      let n = stop.number in
      let sound = first_fault_split rows rest (ap first_fault (sym is) ∙ so_far.sound) in
      let whole : done ++ (before_fault rows ++ before_fault rest) ≡ all =
      ap (λ items. done ++ items) (sym (ap before_fault is ∙ before_fault_then rows rest sound.0)) ∙ so_far.whole in
      let sizes = ap (λ (xs : List Delivery). length xs) whole in
      let one = length-append done (before_fault rows ++ before_fault rest) in
      let two = length-append (before_fault rows) (before_fault rest) in
      let within = stop.within in
      let sum = so_far.counted in
      let counted = stop.counted in
      let first : take (length done + n) all ≡ done ++ take n (before_fault rows) =
      ap (λ xs. take (length done + n) xs) (sym whole) ∙ take-append-add done (before_fault rows ++ before_fault rest) n
      ∙ ap (λ xs. done ++ xs) (take-append-le n (before_fault rows) (before_fault rest) (omega (arith, within))) in
      record {
        number = length done + n;
        within = omega (arith, sizes, one, two, within);
        counted = omega (arith, sum, counted);
        delivered = subst (λ xs. Delivers now xs old new) (sym first) (delivers_then now done (take n (before_fault rows)) old mid new so_far.delivered stop.delivered);
      }
