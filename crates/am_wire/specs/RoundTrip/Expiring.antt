-- A message that is written with its moment is read back, and so is a value made of the two.
use Rattle.std.proofs.Common.{◌≡◌, ℕ, ◌^◌, ◌<◌, ◌≤◌, Bool, true, cond, List, [], ◌∷◌, length, Option, Some, Result, Ok, refl, ap, ◌∙◌}
use Rattle.am_version_order.specs.Moments.{greatest}
use Rattle.am_wire.specs.declared.error.WireError.{WireError}
use Rattle.am_wire.specs.declared.error.WireError.TheVariants as errors
use Rattle.am_wire.specs.Fields.{FieldAt}
use Rattle.am_wire.specs.Reading.{Table, part_row, last_place, merged, is_given, ◌then◌}
use Rattle.am_wire.specs.Timestamps.{timestamp, moment_test, writes_moment}
use Rattle.am_wire.specs.Expiring.{expiring, expiring_tests, expiring_value, writes_expiring}
use Rattle.am_wire.specs.RoundTrip.Slots.{Slot, slot, part}
use Rattle.am_wire.specs.RoundTrip.Written.{Means, ReadsAs, IsWritten, written_nothing, written_part, given_again, part_again, reads_whole}
use Rattle.am_wire.specs.RoundTrip.Moments.{MeansMoment, moment_reads, moment_part_again}

-- the fields that a message and its moment write
abbrev pub expiring_slots : List ℕ → ℕ → List Slot
expiring_slots text expires_at = slot 2 (part (writes_moment expires_at)) ∷ slot 1 (part text) ∷ []

module _ {A : Type 0} {table : Table} {tests : ℕ → List FieldAt → Option WireError} {value : List FieldAt → A} where
  pub expiring_written : {text : List ℕ} {message : A} {expires_at : ℕ} → (length text < 2 ^ 64 → ReadsAs table tests value text message)
      → expires_at ≤ greatest → IsWritten (part_row 1 table ∷ part_row 2 timestamp ∷ []) (expiring_slots text expires_at)
  expiring_written {text} {message} {expires_at} inner low =
      let start = written_nothing (part_row 1 table ∷ part_row 2 timestamp ∷ []) in
      written_part (written_part start 1 inner refl refl) 2 (moment_reads expires_at low) refl refl

  -- a message that is read back by itself is read back with its moment
  pub expiring_reads : {text : List ℕ} {message : A} {expires_at : ℕ} → (length text < 2 ^ 64 → ReadsAs table tests value text message)
      → expires_at ≤ greatest → length (writes_expiring text expires_at) < 2 ^ 64
      → ReadsAs (expiring table) (expiring_tests table tests) (expiring_value table value) (writes_expiring text expires_at)
      (record { message = message; expires_at = expires_at })
  expiring_reads {text} {message} {expires_at} inner low small =
      let all = expiring_written inner low in
      reads_whole all small (λ at.
      whole (given_again all at 1 refl) (part_again all at 1 small inner refl) (moment_part_again all at 2 small low refl))
    where
      whole : {es : List FieldAt} → is_given 1 es ≡ true → Means tests value (merged table 1 es) message → MeansMoment 2 es expires_at
          → Means (expiring_tests table tests) (expiring_value table value) es (record { message = message; expires_at = expires_at })
      whole {es} given own expires = record {
        passes = λ place.
            ap (λ (b : Bool). cond b (tests (last_place 1 es) (merged table 1 es) then moment_test 2 es)
            (Some (errors.MissingMessage 1))) given
            ∙ ap (λ (f : Option WireError). f then moment_test 2 es) (own.passes (last_place 1 es)) ∙ expires.passes;
        value_is = λ i. record { message = own.value_is i; expires_at = expires.value_is i };
      }

  -- a value made of what is read back is read back
  pub made_reads : {B : Type 0} (make : A → B) {text : List ℕ} {v : A} → ReadsAs table tests value text v
      → ReadsAs table tests (λ es. make (value es)) text (make v)
  made_reads make reads = record {
    clean = reads.clean;
    means = λ at. record { passes = (reads.means at).passes; value_is = ap make (reads.means at).value_is };
  }

-- two values that are read from the same text are the same
pub read_alike : {A : Type 0} (reads : List ℕ → Result A WireError) {a b : List ℕ} {v w : A} → reads a ≡ Ok v → reads b ≡ Ok w
    → a ≡ b → v ≡ w
read_alike {A} reads {a} {b} {v} {w} first second same = same_ok first (ap reads same ∙ second)
  where
    same_ok : {r : Result A WireError} → r ≡ Ok v → r ≡ Ok w → v ≡ w
    same_ok one other = cc
