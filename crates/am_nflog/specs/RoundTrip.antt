-- Proofs that an entry that is written is read back. They are in specs, and not in proofs, since the laws of the messages are
-- proved by them.
use Rattle.std.proofs.Common.{◌≡◌, ℕ, ◌^◌, ◌<◌, Bool, true, false, not, cond, eqb, List, [], ◌∷◌, length, Some}
use Rattle.std.proofs.Common.{Ok, refl, ap, ◌∙◌, arith}
use Rattle.am_version_order.specs.Versions.{Version}
use Rattle.am_wire.specs.declared.error.WireError.TheVariants as errors
use Rattle.am_wire.specs.Fields.{FieldAt}
use Rattle.am_wire.specs.Reading.{Row, varint_row, text_row, blob_row, part_row, numbers_row, last_number, last_text}
use Rattle.am_wire.specs.Reading.{fields_in, all_numbers, merged, is_given, last_or, varint_in, delimited_in, numbers_in}
use Rattle.am_wire.specs.Timestamps.{timestamp, low_half, moment_test}
use Rattle.am_wire.specs.RoundTrip.Written.{Means, ReadsAs, read_by-reads, written_nothing, written_number, written_text}
use Rattle.am_wire.specs.RoundTrip.Written.{written_blob, written_numbers, written_part, number_again, text_again}
use Rattle.am_wire.specs.RoundTrip.Written.{numbers_again, given_again, part_again, reads_whole}
use Rattle.am_wire.specs.RoundTrip.Moments.{MeansMoment, moment_reads, moment_part_again}
use Rattle.am_wire.specs.declared.unknown.Unknown.{Unknown}
use Rattle.am_wire.specs.declared.unknown.Unknown.TheVariants.{Drop, Keep}
use Rattle.am_wire.specs.Expiring.{expiring, expiring_tests, expiring_value}
use Rattle.am_wire.specs.Unknown.{unknown_fields, plainly}
use Rattle.am_wire.specs.RoundTrip.Plain.{read_plain}
use Rattle.am_wire.proofs.ExpiringKept.{kept_reads}
use Rattle.am_wire.proofs.Overlooked.{AreKnown, Overlooks, picked_before, given_before, merged_before, moment_before, moment_test_before, written_known}
use Rattle.am_wire.specs.RoundTrip.Expiring.{made_reads, read_alike}
use Rattle.am_nflog.specs.declared.receiver.Receiver.{Receiver}
use Rattle.am_nflog.specs.declared.entry.Entry.{Entry}
use Rattle.am_nflog.specs.LogKeys.{LogKey}
use Rattle.am_nflog.specs.Receivers.{receiver, receiver_tests, receiver_value, reads_receiver, writes_receiver, IsReceiver}
use Rattle.am_nflog.specs.Entries.{entry, entry_tests, entry_value, reads_entry, writes_entry, IsEntry}
use Rattle.am_nflog.specs.Mesh.{Mesh, IsMesh, mesh_version, entry_numbers, without_unknown, writes_mesh_entry}
use Rattle.am_nflog.specs.MeshTable.{mesh_of, reads_mesh_entry}

-- ---- receivers
receiver_reads : (r : Receiver) → IsReceiver r → length (writes_receiver r) < 2 ^ 64
    → ReadsAs receiver receiver_tests receiver_value (writes_receiver r) r
unfolding writes_receiver
receiver_reads r is small =
    let low = is.idx in
    let start = written_nothing (text_row 1 ∷ text_row 2 ∷ varint_row 3 ∷ []) in
    let one = written_text start 1 r.group_name is.group_name refl refl in
    let two = written_text one 2 r.integration is.integration refl refl in
    let all = written_number two 3 r.idx (omega arith) refl refl in
    reads_whole all small (λ at. whole low (text_again all at 1 refl) (text_again all at 2 refl) (number_again all at 3 refl))
  where
    whole : {es : List FieldAt} → r.idx < 2 ^ 32 → last_text 1 es ≡ r.group_name → last_text 2 es ≡ r.integration
        → last_number 3 es ≡ r.idx → Means receiver_tests receiver_value es r
    whole {es} low name integration number =
        let idx : low_half (last_number 3 es) ≡ r.idx = ap low_half number ∙ (omega arith) in
        record {
          passes = λ place. refl;
          value_is = λ i. record { group_name = name i; integration = integration i; idx = idx i };
        }

pub receiver_again : (r : Receiver) (at : ℕ) → IsReceiver r → length (writes_receiver r) < 2 ^ 64
    → reads_receiver at (writes_receiver r) ≡ Ok r
unfolding reads_receiver
receiver_again r at is small = read_by-reads (receiver_reads r is small) at at

-- ---- entries
abbrev entry_rows : List Row
entry_rows = blob_row 1 ∷ part_row 2 receiver ∷ blob_row 3 ∷ varint_row 4 ∷ part_row 5 timestamp ∷ numbers_row 6 ∷ numbers_row 7 ∷ []

flag_small : (b : Bool) → cond b 1 0 < 2 ^ 64
flag_small true = omega arith
flag_small false = omega arith

flag_again : (b : Bool) → not (eqb (cond b 1 0) 0) ≡ b
flag_again true = refl
flag_again false = refl

entry_reads : (e : Entry) → IsEntry e → length (writes_entry e) < 2 ^ 64
    → ReadsAs entry entry_tests entry_value (writes_entry e) e × AreKnown entry_numbers (writes_entry e)
unfolding writes_entry
entry_reads e is small =
    let start = written_nothing entry_rows in
    let one = written_blob start 1 e.key.group_key refl refl in
    let two = written_part one 2 (receiver_reads e.key.receiver is.receiver) refl refl in
    let three = written_blob two 3 e.group_hash refl refl in
    let four = written_number three 4 (cond e.resolved 1 0) (flag_small e.resolved) refl refl in
    let five = written_part four 5 (moment_reads e.timestamp is.timestamp) refl refl in
    let six = written_numbers five 6 e.firing_alerts is.firing_alerts refl refl in
    let all = written_numbers six 7 e.resolved_alerts is.resolved_alerts refl refl in
    let reads = reads_whole all small (λ at.
    whole (text_again all at 1 refl) (given_again all at 2 refl)
    (part_again all at 2 small (receiver_reads e.key.receiver is.receiver) refl)
    (text_again all at 3 refl) (number_again all at 4 refl) (moment_part_again all at 5 small is.timestamp refl)
    (numbers_again all at 6 e.firing_alerts is.firing_alerts refl) (numbers_again all at 7 e.resolved_alerts is.resolved_alerts refl)) in
    (reads, written_known entry_numbers all small refl)
  where
    whole : {es : List FieldAt} → last_text 1 es ≡ e.key.group_key → is_given 2 es ≡ true
        → Means receiver_tests receiver_value (merged receiver 2 es) e.key.receiver
        → last_text 3 es ≡ e.group_hash → last_number 4 es ≡ cond e.resolved 1 0 → MeansMoment 5 es e.timestamp
        → all_numbers 6 es ≡ e.firing_alerts → all_numbers 7 es ≡ e.resolved_alerts → Means entry_tests entry_value es e
    whole {es} group_key given inner hash flag made firing resolved_alerts =
        let resolved : not (eqb (last_number 4 es) 0) ≡ e.resolved = ap (λ (n : ℕ). not (eqb n 0)) flag ∙ flag_again e.resolved in
        record {
          passes = λ place. ap (λ (b : Bool). cond b (moment_test 5 es) (Some (errors.MissingMessage 2))) given ∙ made.passes;
          value_is = λ i. record {
            key = record { group_key = group_key i; receiver = inner.value_is i };
            group_hash = hash i;
            resolved = resolved i;
            timestamp = made.value_is i;
            firing_alerts = firing i;
            resolved_alerts = resolved_alerts i;
          };
        }

pub entry_again : (e : Entry) (at : ℕ) → IsEntry e → length (writes_entry e) < 2 ^ 64 → reads_entry at (writes_entry e) ≡ Ok e
unfolding reads_entry
entry_again e at is small = read_by-reads (entry_reads e is small).0 at at

-- the entry made of some fields is that of the known ones among them
entry_overlooks : Overlooks entry_numbers entry_tests entry_value
entry_overlooks = record {
  tests_stay = λ place es fs all i.
      cond (given_before entry_numbers 2 refl es fs all i) (moment_test_before entry_numbers 5 refl es fs all i) (Some (errors.MissingMessage 2));
  value_stays = λ es fs all.
      let group_key = picked_before delimited_in entry_numbers 1 refl es fs all in
      let of_receiver = merged_before entry_numbers 2 refl es fs all receiver in
      let hash = picked_before delimited_in entry_numbers 3 refl es fs all in
      let flag = picked_before varint_in entry_numbers 4 refl es fs all in
      λ i. record {
        key = record { group_key = last_or [] (group_key i); receiver = receiver_value (of_receiver i) };
        group_hash = last_or [] (hash i);
        resolved = not (eqb (last_or 0 (flag i)) 0);
        timestamp = moment_before entry_numbers 5 refl es fs all i;
        firing_alerts = picked_before numbers_in entry_numbers 6 refl es fs all i;
        resolved_alerts = picked_before numbers_in entry_numbers 7 refl es fs all i;
      };
}

-- ---- entries that instances exchange
mesh_reads : (m : Mesh) → IsMesh m → length (writes_mesh_entry m) < 2 ^ 64
    → ReadsAs (expiring entry) (expiring_tests entry entry_tests)
    (λ es. mesh_of (unknown_fields Keep entry_numbers es (writes_mesh_entry m), expiring_value entry entry_value es)) (writes_mesh_entry m) m
unfolding writes_mesh_entry
mesh_reads m is small =
    made_reads mesh_of
    (kept_reads entry_rows entry_tests entry_value (writes_entry m.entry) m.entry m.expires_at m.unknown entry_overlooks
    is.unknown (entry_reads m.entry is.entry) is.expires_at small)

pub mesh_again : (m : Mesh) (at : ℕ) → IsMesh m → length (writes_mesh_entry m) < 2 ^ 64 → reads_mesh_entry Keep at (writes_mesh_entry m) ≡ Ok m
unfolding reads_mesh_entry
mesh_again m at is small = read_by-reads (mesh_reads m is small) at at

-- the unknown fields of a version are those of its text
pub unknown_again : (m : Mesh) (text : List ℕ) → IsMesh m → text ≡ writes_mesh_entry m
    → unknown_fields Keep entry_numbers (fields_in (expiring entry) 0 text) text ≡ m.unknown
unknown_again m text is written =
    let small = is.size in
    ap (λ t. unknown_fields Keep entry_numbers (fields_in (expiring entry) 0 t) t) written
    ∙ ap (λ (v : Mesh). v.unknown) ((mesh_reads m is (omega arith)).means 0).value_is

-- if unknown fields are dropped, the rest is read
pub mesh_dropped : (at : ℕ) (bytes : List ℕ) → reads_mesh_entry Drop at bytes ≡ plainly without_unknown (reads_mesh_entry Keep at bytes)
unfolding reads_mesh_entry
mesh_dropped at bytes =
    read_plain without_unknown (expiring entry) (expiring_tests entry entry_tests)
    (λ es. mesh_of (unknown_fields Keep entry_numbers es bytes, expiring_value entry entry_value es)) at at bytes

-- a version without unknown fields is read from its text whether they are kept or dropped
pub plain_again : (unknown : Unknown) (m : Mesh) (at : ℕ) → IsMesh m → length (writes_mesh_entry m) < 2 ^ 64 → without_unknown m ≡ m
    → reads_mesh_entry unknown at (writes_mesh_entry m) ≡ Ok m
plain_again Keep m at is small plain = mesh_again m at is small
plain_again Drop m at is small plain =
    mesh_dropped at (writes_mesh_entry m) ∙ ap (plainly without_unknown) (mesh_again m at is small) ∙ ap (λ v. Ok v) plain

-- versions that the merge sees as equal are the same
pub mesh_exact : (v w : Mesh) → IsMesh v → IsMesh w → mesh_version v ≡ mesh_version w → v ≡ w
mesh_exact v w is_v is_w same =
    let text : writes_mesh_entry v ≡ writes_mesh_entry w = ap (λ (x : Version LogKey). x.content) same in
    let small_v = is_v.size in
    let small_w = is_w.size in
    read_alike (reads_mesh_entry Keep 0) (mesh_again v 0 is_v (omega arith)) (mesh_again w 0 is_w (omega arith)) text
