-- The row of a part, taken into the map of its state.
use Rattle.std.proofs.Common.{◌≡◌, ℕ, ◌+◌, List, map, length, take, ap, sym, subst, ◌∙◌, arith}
use Rattle.std.specs.Prelude.{Result, Ok, Err, OnOk, OnErr}
use Rattle.std.proofs.lemmas.List.{length-map}
use Rattle.std.specs.Ordering.{nat_cmp}
use Rattle.std.specs.Cmp.Lexicographic.{slice_cmp}
use Rattle.am_wire.specs.Inputs.{messages_of}
use Rattle.am_wire.specs.declared.unknown.Unknown.{Unknown}
use Rattle.am_silence.specs.Mesh.{mesh_version}
use Rattle.am_silence.specs.MeshTable.{reads_mesh_silence}
use Rattle.am_nflog.specs.Mesh.{mesh_version as entry_version}
use Rattle.am_nflog.specs.MeshTable.{reads_mesh_entry}
use Rattle.am_nflog.specs.Keys.{key_cmp}
use Rattle.am_nflog.specs.LogKeys.{LogKey}
use Rattle.am_gossip.specs.declared.frame.Part.{Part}
use Rattle.am_gossip.specs.declared.frame.StateKey.{StateKey}
use Rattle.am_gossip.specs.declared.frame.StateKey.TheVariants.{Sil, Nfl}
use Rattle.am_collect.specs.Events.{after_all}
use Rattle.am_instance.specs.Deliveries.{Delivery, before_fault, rows_of}
use Rattle.am_instance.specs.Deliveries.Delivery.{OfSilence, OfEntry}
use Rattle.am_instance.specs.InstanceStates.{InstanceState, silence_at, entry_at}
use Rattle.am_instance.specs.Changes.{changed, changed_of, takings, IsStoppedRow}
use Rattle.am_instance.specs.Sendings.{Sent, Sends, deltas_of, deltas_to}
use Rattle.am_instance.specs.Steps.{Delivers, StopsDelivering}
use Rattle.am_instance.proofs.Lifts.{silence_rows, log_rows, delivers_silences, delivers_entries, sent_silences, sent_entries, take_map}

pub on_ok : {T E A B : Type 0} (r : Result T E) → (A → B) → OnOk r A → OnOk r B
on_ok (Ok x) f given = f given
on_ok (Err e) f given = given

pub on_err : {T E A B : Type 0} (r : Result T E) → (A → B) → OnErr r A → OnErr r B
on_err (Ok x) f given = given
on_err (Err e) f given = f given

-- `mode` is what the rows were read by
module _ (unknown mode : Unknown) (by : mode ≡ unknown) (part : Part) (now : ℕ) (old new : InstanceState) (config : new.config ≡ old.config) (last : new.last ≡ old.last) where
  module _ (is : part.key ≡ Sil) (log : new.log ≡ old.log) (row : List ℕ) (same : row ≡ part.bytes) where
    all : map OfSilence (before_fault (messages_of (reads_mesh_silence mode) row)) ≡ before_fault (rows_of unknown part)
    all = ap (λ (bytes : List ℕ). map OfSilence (before_fault (messages_of (reads_mesh_silence mode) bytes))) same
        ∙ ap (λ u. map OfSilence (before_fault (messages_of (reads_mesh_silence u) part.bytes))) by ∙ sym (silence_rows unknown part is)

    pub silences_delivered : ((key : List ℕ) → silence_at new.silences key ≡ after_all mesh_version (slice_cmp nat_cmp) (silence_at old.silences) (takings now (before_fault (messages_of (reads_mesh_silence mode) row))) key) →
        Delivers now (before_fault (rows_of unknown part)) old new
    silences_delivered taken = subst (λ ds. Delivers now ds old new) all (delivers_silences now (before_fault (messages_of (reads_mesh_silence mode) row)) old new config last log taken)

    pub silences_counted : (before count : ℕ) → count ≡ before + length (before_fault (messages_of (reads_mesh_silence mode) row)) → count ≡ before + length (before_fault (rows_of unknown part))
    silences_counted before count is_so =
        let size = ap (λ (ds : List Delivery). length ds) all in
        let mapped = length-map (before_fault (messages_of (reads_mesh_silence mode) row)) OfSilence in
        omega (arith, is_so, size, mapped)

    pub silences_sent : (places peers : List ℕ) (a b : Sent) → places ≡ peers →
        Sends (deltas_of mesh_version part.key places (changed mesh_version (slice_cmp nat_cmp) now (silence_at old.silences) (before_fault (messages_of (reads_mesh_silence mode) row)))) a b →
        Sends (deltas_to peers (changed_of now (silence_at old.silences) (entry_at old.log) (before_fault (rows_of unknown part)))) a b
    silences_sent places peers a b to sent =
        let xs = changed mesh_version (slice_cmp nat_cmp) now (silence_at old.silences) (before_fault (messages_of (reads_mesh_silence mode) row)) in
        subst (λ fs. Sends fs a b)
        (ap (λ (key : StateKey). deltas_of mesh_version key places xs) is ∙ ap (λ (ps : List ℕ). deltas_of mesh_version Sil ps xs) to
        ∙ sent_silences peers now (silence_at old.silences) (entry_at old.log) (before_fault (messages_of (reads_mesh_silence mode) row))
        ∙ ap (λ ds. deltas_to peers (changed_of now (silence_at old.silences) (entry_at old.log) ds)) all)
        sent

    pub silences_stopped : (before count : ℕ) → IsStoppedRow mesh_version (slice_cmp nat_cmp) now old.silences (before_fault (messages_of (reads_mesh_silence mode) row)) new.silences before count →
        StopsDelivering now (before_fault (rows_of unknown part)) old new before count
    silences_stopped before count stop =
        let xs = before_fault (messages_of (reads_mesh_silence mode) row) in
        let size = ap (λ (ds : List Delivery). length ds) all in
        let mapped = length-map xs OfSilence in
        let within = stop.within in
        record {
          number = stop.number;
          within = omega (arith, within, size, mapped);
          counted = stop.counted;
          delivered = subst (λ ds. Delivers now ds old new) (sym (take_map OfSilence stop.number xs) ∙ ap (λ ds. take stop.number ds) all)
              (delivers_silences now (take stop.number xs) old new config last log stop.map);
        }

  module _ (is : part.key ≡ Nfl) (silences : new.silences ≡ old.silences) (row : List ℕ) (same : row ≡ part.bytes) where
    all_entries : map OfEntry (before_fault (messages_of (reads_mesh_entry mode) row)) ≡ before_fault (rows_of unknown part)
    all_entries = ap (λ (bytes : List ℕ). map OfEntry (before_fault (messages_of (reads_mesh_entry mode) bytes))) same
        ∙ ap (λ u. map OfEntry (before_fault (messages_of (reads_mesh_entry u) part.bytes))) by ∙ sym (log_rows unknown part is)

    pub entries_delivered : ((key : LogKey) → entry_at new.log key ≡ after_all entry_version key_cmp (entry_at old.log) (takings now (before_fault (messages_of (reads_mesh_entry mode) row))) key) →
        Delivers now (before_fault (rows_of unknown part)) old new
    entries_delivered taken = subst (λ ds. Delivers now ds old new) all_entries (delivers_entries now (before_fault (messages_of (reads_mesh_entry mode) row)) old new config last silences taken)

    pub entries_counted : (before count : ℕ) → count ≡ before + length (before_fault (messages_of (reads_mesh_entry mode) row)) → count ≡ before + length (before_fault (rows_of unknown part))
    entries_counted before count is_so =
        let size = ap (λ (ds : List Delivery). length ds) all_entries in
        let mapped = length-map (before_fault (messages_of (reads_mesh_entry mode) row)) OfEntry in
        omega (arith, is_so, size, mapped)

    pub entries_sent : (places peers : List ℕ) (a b : Sent) → places ≡ peers →
        Sends (deltas_of entry_version part.key places (changed entry_version key_cmp now (entry_at old.log) (before_fault (messages_of (reads_mesh_entry mode) row)))) a b →
        Sends (deltas_to peers (changed_of now (silence_at old.silences) (entry_at old.log) (before_fault (rows_of unknown part)))) a b
    entries_sent places peers a b to sent =
        let xs = changed entry_version key_cmp now (entry_at old.log) (before_fault (messages_of (reads_mesh_entry mode) row)) in
        subst (λ fs. Sends fs a b)
        (ap (λ (key : StateKey). deltas_of entry_version key places xs) is ∙ ap (λ (ps : List ℕ). deltas_of entry_version Nfl ps xs) to
        ∙ sent_entries peers now (silence_at old.silences) (entry_at old.log) (before_fault (messages_of (reads_mesh_entry mode) row))
        ∙ ap (λ ds. deltas_to peers (changed_of now (silence_at old.silences) (entry_at old.log) ds)) all_entries)
        sent

    pub entries_stopped : (before count : ℕ) → IsStoppedRow entry_version key_cmp now old.log (before_fault (messages_of (reads_mesh_entry mode) row)) new.log before count →
        StopsDelivering now (before_fault (rows_of unknown part)) old new before count
    entries_stopped before count stop =
        let xs = before_fault (messages_of (reads_mesh_entry mode) row) in
        let size = ap (λ (ds : List Delivery). length ds) all_entries in
        let mapped = length-map xs OfEntry in
        let within = stop.within in
        record {
          number = stop.number;
          within = omega (arith, within, size, mapped);
          counted = stop.counted;
          delivered = subst (λ ds. Delivers now ds old new) (sym (take_map OfEntry stop.number xs) ∙ ap (λ ds. take stop.number ds) all_entries)
              (delivers_entries now (take stop.number xs) old new config last silences stop.map);
        }
