-- A moment that is written is read back, by itself and inside a message.
use Rattle.std.proofs.Common.{◌≡◌, ℕ, ◌/◌, ◌%◌, ◌^◌, ◌<◌, ◌≤◌, Bool, ltb, true, cond, List, [], ◌∷◌, length, Some, None, Ok, refl, ap, ◌∙◌}
use Rattle.std.proofs.Common.{arith}
use Rattle.std.proofs.lemmas.Bool.{lt-ltb, and_from}
use Rattle.am_version_order.specs.Moments.{greatest}
use Rattle.am_wire.specs.declared.error.WireError.TheVariants as errors
use Rattle.am_wire.specs.Fields.{FieldAt}
use Rattle.am_wire.specs.Reading.{Row, varint_row, last_number, last_place, merged}
use Rattle.am_wire.specs.Timestamps.{timestamp, timestamp_tests, moment, moment_of, moment_test, seconds_since_least, low_half}
use Rattle.am_wire.specs.Timestamps.{seconds_number, reads_moment, writes_moment}
use Rattle.am_wire.specs.RoundTrip.Slots.{part, Slot, written, fields_at, content_at}
use Rattle.am_wire.specs.RoundTrip.Written.{Means, ReadsAs, read_by-reads, IsWritten, written_nothing, written_number, number_again}
use Rattle.am_wire.specs.RoundTrip.Written.{given_again, part_again, reads_whole}

seconds_again : (m : ℕ) → m ≤ greatest → seconds_since_least (seconds_number m) ≡ m / 1_000_000_000
seconds_again m h = omega arith

nanos_again : (m : ℕ) → low_half (m % 1_000_000_000) ≡ m % 1_000_000_000
nanos_again m = omega arith

-- a moment's text is read as the moment, at any offset
pub moment_reads : (m : ℕ) → m ≤ greatest → length (writes_moment m) < 2 ^ 64 → ReadsAs timestamp timestamp_tests moment (writes_moment m) m
unfolding writes_moment
moment_reads m h small =
    let start = written_nothing (varint_row 1 ∷ varint_row 2 ∷ []) in
    let one = written_number start 1 (seconds_number m) (omega arith) refl refl in
    let both = written_number one 2 (m % 1_000_000_000) (omega arith) refl refl in
    reads_whole both small (λ at. whole (number_again both at 1 refl) (number_again both at 2 refl))
  where
    whole : {es : List FieldAt} → last_number 1 es ≡ seconds_number m → last_number 2 es ≡ m % 1_000_000_000
        → Means timestamp_tests moment es m
    whole {es} one two =
        let seconds : seconds_since_least (last_number 1 es) ≡ m / 1_000_000_000 = ap seconds_since_least one ∙ seconds_again m h in
        let nanos : low_half (last_number 2 es) ≡ m % 1_000_000_000 = ap low_half two ∙ nanos_again m in
        let a : ltb (seconds_since_least (last_number 1 es)) 315_537_897_600 ≡ true = rw seconds (lt-ltb _ _ (omega arith)) in
        let b : ltb (low_half (last_number 2 es)) 1_000_000_000 ≡ true = rw nanos (lt-ltb _ _ (omega arith)) in
        record {
          passes = λ place. ap (λ (t : Bool). cond t None (Some (errors.Timestamp place))) (and_from _ _ a b);
          value_is = rw (seconds, nanos) (omega arith);
        }

pub moment_again : (m at : ℕ) → m ≤ greatest → length (writes_moment m) < 2 ^ 64 → reads_moment at (writes_moment m) ≡ Ok m
unfolding reads_moment
moment_again m at h small = read_by-reads (moment_reads m h small) at at

-- ---- a moment that a message holds at the number n
pub record MeansMoment (n : ℕ) (es : List FieldAt) (m : ℕ) : Type 0 where
  pub value_is : moment_of n es ≡ m
  pub passes : moment_test n es ≡ None

pub moment_part_again : {rows : List Row} {slots : List Slot} (w : IsWritten rows slots) (at n : ℕ) → length (written slots) < 2 ^ 64
    → {m : ℕ} → m ≤ greatest → content_at n slots ≡ part (writes_moment m) → MeansMoment n (fields_at at slots) m
moment_part_again {rows} {slots} w at n small {m} h is =
    let means = part_again w at n small (moment_reads m h) is in
    record {
      value_is = ap (λ (b : Bool). cond b (moment (merged timestamp n (fields_at at slots))) 0) (given_again w at n is) ∙ means.value_is;
      passes = means.passes (last_place n (fields_at at slots));
    }
