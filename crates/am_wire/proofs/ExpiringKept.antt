-- A message that is written with its moment and with unknown fields is read again with them.
use Rattle.std.proofs.Common.{◌≡◌, ℕ, ◌+◌, ◌^◌, ◌<◌, ◌≤◌, Bool, true, false, cond, eqb, List, [], ◌∷◌, ◌++◌, length, Option, Some, None, Ok}
use Rattle.std.proofs.Common.{refl, ap, ◌∙◌, length-append, arith}
use Rattle.std.specs.List.{All, flat_map}
use Rattle.std.proofs.lemmas.List.{append-nil}
use Rattle.std.proofs.lemmas.List.Concat.{flat_map-append}
use Rattle.std.proofs.lemmas.List.Elements.{All-head, All-tail}
use Rattle.am_version_order.specs.Moments.{greatest}
use Rattle.am_wire.specs.declared.error.WireError.{WireError}
use Rattle.am_wire.specs.declared.error.WireError.TheVariants as errors
use Rattle.am_wire.specs.declared.expiring.Expiring.{Expiring}
use Rattle.am_wire.specs.declared.unknown.Unknown.{Unknown}
use Rattle.am_wire.specs.declared.unknown.Unknown.TheVariants.{Drop, Keep}
use Rattle.am_wire.specs.declared.unknown.UnknownFields.{UnknownFields}
use Rattle.am_wire.specs.Expiring.{expiring, expiring_tests, expiring_value, writes_expiring}
use Rattle.am_wire.specs.Fields.{FieldAt, Payload, varint, eight, four, delimited_at}
use Rattle.am_wire.specs.Reading.{Table, Row, table_of, part_row, part_fault, picked, delimited_in, fields_in, read_by, ◌then◌}
use Rattle.am_wire.specs.Timestamps.{timestamp, writes_moment}
use Rattle.am_wire.specs.Unknown.{unknown_in, unknown_inside, unknown_fields, expiring_numbers, writes_with, AreUnknown, IsUnknown}
use Rattle.am_wire.specs.Writing.{writes_delimited}
use Rattle.am_wire.specs.RoundTrip.Puts.{length-writes_delimited}
use Rattle.am_wire.specs.RoundTrip.Expiring.{expiring_slots, expiring_written, expiring_reads}
use Rattle.am_wire.specs.RoundTrip.Written.{IsWritten, ReadsAs, delimited_again, fields_written}
use Rattle.am_wire.proofs.Kept.{none_unknown, unknown_joined, fields_unknown}
use Rattle.am_wire.proofs.Meanings.{message_found, sound_found, sound_read}
use Rattle.am_wire.proofs.Overlooked.{Overlooks, AreKnown, numbers, given_before, place_before, merged_before, moment_before, moment_test_before}
use Rattle.am_wire.proofs.Overlooked.{behind, fields_before, picked_before, reads_before, unknown_again, written_known}

module _ {A : Type 0} (table : Table) (tests : ℕ → List FieldAt → Option WireError) (value : List FieldAt → A) where
  pub expiring_overlooks : Overlooks expiring_numbers (expiring_tests table tests) (expiring_value table value)
  expiring_overlooks = record {
    tests_stay = λ place es fs all.
        let given = given_before expiring_numbers 1 refl es fs all in
        let at = place_before expiring_numbers 1 refl es fs all in
        let own = merged_before expiring_numbers 1 refl es fs all table in
        let moment = moment_test_before expiring_numbers 2 refl es fs all in
        λ i. cond (given i) (tests (at i) (own i) then moment i) (Some (errors.MissingMessage 1));
    value_stays = λ es fs all i. record {
      message = value (merged_before expiring_numbers 1 refl es fs all table i);
      expires_at = moment_before expiring_numbers 2 refl es fs all i;
    };
  }

module _ {A : Type 0} (rows : List Row) (tests : ℕ → List FieldAt → Option WireError) (value : List FieldAt → A) where
  abbrev table : Table
  table = table_of rows

  abbrev both : List Row
  both = part_row 1 table ∷ part_row 2 timestamp ∷ []

  -- the unknown fields of a text beside the value of its fields
  abbrev pub with_unknown : Unknown → List ℕ → List FieldAt → UnknownFields × Expiring A
  with_unknown unknown bytes es = (unknown_fields unknown (numbers rows) es bytes, expiring_value table value es)

  module _ (text : List ℕ) (message : A) (expires_at : ℕ) (unknown : UnknownFields) (overlooks : Overlooks (numbers rows) tests value) (is : IsUnknown (numbers rows) unknown)
      (inner : length text < 2 ^ 64 → ReadsAs table tests value text message × AreKnown (numbers rows) text) (low : expires_at ≤ greatest)
      (small : length (writes_with unknown text expires_at) < 2 ^ 64) where
    abbrev own : List ℕ
    own = text ++ unknown.inner

    abbrev front : List ℕ
    front = writes_expiring own expires_at

    abbrev whole : List ℕ
    whole = writes_with unknown text expires_at

    front_small : length front < 2 ^ 64
    front_small = omega (arith, length-append front unknown.outer, small)

    text_small : length text < 2 ^ 64
    text_small = omega (arith, length-append text unknown.inner, length-writes_delimited 1 own, length-append (writes_delimited 1 own) (writes_delimited 2 (writes_moment expires_at)), front_small)

    own_reads : length own < 2 ^ 64 → ReadsAs table tests value own message
    own_reads short = reads_before rows overlooks (inner (omega (arith, length-append text unknown.inner, short))).0 is.inner

    is_written : IsWritten both (expiring_slots own expires_at)
    is_written = expiring_written own_reads low

    front_reads : ReadsAs (expiring table) (expiring_tests table tests) (expiring_value table value) front (record { message = message; expires_at = expires_at })
    front_reads = expiring_reads own_reads low front_small

    front_known : AreKnown expiring_numbers front
    front_known = written_known expiring_numbers is_written front_small refl

    seen : (at : ℕ) → picked delimited_in 1 (fields_in (expiring table) at whole) ≡ own ∷ []
    seen at =
        let others = (is.outer (at + length front)).unknown in
        let fs = behind both front unknown.outer front_reads.clean is.outer at in
        ap (picked delimited_in 1) (fields_before both front unknown.outer front_reads.clean is.outer at)
        ∙ picked_before delimited_in expiring_numbers 1 refl (fields_in (expiring table) at front) fs others
        ∙ ap (picked delimited_in 1) (fields_written is_written front_small at) ∙ delimited_again is_written at 1 refl

    inner_again : (at : ℕ) → unknown_inside (numbers rows) 1 (fields_in (expiring table) at whole) ≡ unknown.inner
    inner_again at =
        ap (flat_map (unknown_in (numbers rows))) (seen at) ∙ append-nil (unknown_in (numbers rows) own)
        ∙ unknown_again (numbers rows) text unknown.inner (inner text_small).1 is.inner

    outer_again : unknown_in expiring_numbers whole ≡ unknown.outer
    outer_again = unknown_again expiring_numbers front unknown.outer front_known is.outer

    pub kept_reads : ReadsAs (expiring table) (expiring_tests table tests) (with_unknown Keep whole) whole
        (unknown, record { message = message; expires_at = expires_at })
    kept_reads =
        let all = reads_before both (expiring_overlooks table tests value) front_reads is.outer in
        record {
          clean = all.clean;
          means = λ at. record {
            passes = (all.means at).passes;
            value_is = λ i. (record { inner = inner_again at i; outer = outer_again i }, (all.means at).value_is i);
          };
        }

-- ---- what is kept of bytes that were read are unknown fields
module _ (table : Table) (known : List ℕ) where
  payload_unknown : (b : Bool) (number at : ℕ) (payload : Payload) (other : Option WireError)
      → cond b (part_fault table (record { number = number; payload = payload; at = at })) other ≡ None
      → AreUnknown known (flat_map (unknown_in known) (cond b (delimited_in (record { number = number; payload = payload; at = at })) []))
  unfolding unknown_in
  payload_unknown true number at (delimited_at inside bytes) other clean =
      rw (append-nil (unknown_in known bytes)) (fields_unknown known (fields_in table inside bytes) inside 0 bytes (sound_found table inside bytes clean).fields)
  payload_unknown true number at (varint n) other clean = none_unknown known
  payload_unknown true number at (eight n) other clean = none_unknown known
  payload_unknown true number at (four n) other clean = none_unknown known
  payload_unknown false number at payload other clean = none_unknown known

  payloads_unknown : (es : List FieldAt) → All (λ e. (expiring table).inside e ≡ None) es → AreUnknown known (unknown_inside known 1 es)
  payloads_unknown [] clean = none_unknown known
  payloads_unknown (e ∷ es) clean =
      let one = payload_unknown (eqb e.number 1) e.number e.at e.payload _ (All-head (λ e. (expiring table).inside e ≡ None) e es clean) in
      let rest = payloads_unknown es (All-tail (λ e. (expiring table).inside e ≡ None) e es clean) in
      rw (flat_map-append (unknown_in known) (cond (eqb e.number 1) (delimited_in e) []) (picked delimited_in 1 es)) (unknown_joined known _ _ one rest)

  pub kept_unknown : {A : Type 0} (tests : ℕ → List FieldAt → Option WireError) (value : List FieldAt → A) (unknown : Unknown) (place at : ℕ) (bytes : List ℕ) (v : A)
      → read_by (expiring table) tests value place at bytes ≡ Ok v
      → IsUnknown known (unknown_fields unknown known (fields_in (expiring table) at bytes) bytes)
  unfolding unknown_in
  kept_unknown tests value Drop place at bytes v read = record { inner = none_unknown known; outer = none_unknown expiring_numbers }
  kept_unknown tests value Keep place at bytes v read =
      let message = message_found (expiring table) tests value place at bytes v read in
      let none = (sound_read (expiring table) at bytes message.fields message.sound).0 in
      let sound = sound_found (expiring table) at bytes none in
      record {
        inner = payloads_unknown (fields_in (expiring table) at bytes) sound.clean;
        outer = fields_unknown expiring_numbers (fields_in (expiring table) at bytes) at 0 bytes sound.fields;
      }
