-- Moments and the signed numbers of a timestamp.
use Rattle.std.proofs.Common.{◌≡◌, ℕ, suc, ◌+◌, ◌-◌, ◌*◌, ◌^◌, ◌<◌, ◌≤◌, ltb, eqb, true, false, cond, Bool, pos, negsuc, ◌+ℤ◌, List, [], ◌∷◌, length, Option, Some, None, Ok, refl, sym, ap, subst, ◌∙◌, arith, inl, inr}
use Rattle.std.specs.Int.{w32, w64, cast_signed}
use Rattle.std.specs.List.{All}
use Rattle.std.proofs.lemmas.Int.{ints}
use Rattle.std.proofs.lemmas.Bool.{lt-ltb, le-ltb, ltb-true, and_parts, and_from, cases_lt}
use Rattle.std.proofs.lemmas.List.Elements.{All-nil, All-cons}
use Rattle.am_version_order.specs.Moments.{seconds_before_1970}
use Rattle.am_wire.specs.declared.error.WireError.{WireError}
use Rattle.am_wire.specs.declared.error.WireError.TheVariants as errors
use Rattle.am_wire.specs.Fields.{FieldAt, Payload, varint, eight, four, delimited_at}
use Rattle.am_wire.specs.Grammar.{AreFields, IsField, IsPayload}
use Rattle.am_wire.specs.Reading.{last_or, last_number, picked, varint_in}
use Rattle.am_wire.specs.Timestamps.{timestamp, timestamp_tests, is_moment, moment, seconds_since_least, low_half, reads_moment}
use Rattle.am_wire.specs.SignedParts.{ArePartsOf, IsTimestampOf}
use Rattle.am_wire.proofs.Picked.{last_or-append}
use Rattle.am_wire.proofs.Meanings.{none_some, message_found, message_read}

-- ---- numbers
-- numbers from the half of their range on are negative
negative64 : (n : ℕ) → 2 ^ 63 ≤ n → cast_signed w64 n ≡ negsuc (2 ^ 64 - suc n)
negative64 n high = let t : ltb n (2 ^ 63) ≡ false = le-ltb _ _ high in rw t refl

negative32 : (n : ℕ) → 2 ^ 31 ≤ n → cast_signed w32 n ≡ negsuc (2 ^ 32 - suc n)
negative32 n high = let t : ltb n (2 ^ 31) ≡ false = le-ltb _ _ high in rw t refl

no_pos : (m n : ℕ) → negsuc m ≡ pos n → ⊥
no_pos m n h = cc

module _ (seconds nanos : ℕ) (small : seconds < 2 ^ 64) where
  since_is : seconds_since_least seconds < 315_537_897_600 → cast_signed w64 seconds +ℤ pos seconds_before_1970 ≡ pos (seconds_since_least seconds)
  since_is in_years =
      elim (cases_lt seconds (2 ^ 63)) [
        | inl low ↦ omega (arith, ints)
        | inr high ↦ let is = negative64 seconds high in omega (arith, ints, is)
      ]

  pub parts_from_range : seconds_since_least seconds < 315_537_897_600 → low_half nanos < 1_000_000_000
      → ArePartsOf seconds nanos (seconds_since_least seconds * 1_000_000_000 + low_half nanos)
  parts_from_range in_years in_second =
      let since = since_is in_years in record {
        rest = low_half nanos;
        rest_is = omega (arith, ints);
        parts = record { not_before = omega (arith, ints, since); not_after = omega (arith, ints, since); below_second = in_second };
        moment_is = omega (arith, ints, since);
      }

  module _ (m : ℕ) (is : ArePartsOf seconds nanos m) where
    pub rest_from_parts : low_half nanos ≡ is.rest
    rest_from_parts =
        let rest_is = is.rest_is in
        elim (cases_lt (low_half nanos) (2 ^ 31)) [
          | inl low ↦ omega (arith, ints, rest_is)
          | inr high ↦ absurd (no_pos (2 ^ 32 - suc (low_half nanos)) is.rest (sym (negative32 (low_half nanos) high) ∙ rest_is))
        ]

    pub seconds_from_parts : seconds_since_least seconds < 315_537_897_600
    seconds_from_parts =
        let not_before = is.parts.not_before in
        let not_after = is.parts.not_after in
        elim (cases_lt seconds (2 ^ 63)) [
          | inl low ↦ omega (arith, ints, not_before, not_after)
          | inr high ↦ let negative = negative64 seconds high in omega (arith, ints, negative, not_before, not_after)
        ]

    pub moment_from_parts : seconds_since_least seconds * 1_000_000_000 + low_half nanos ≡ m
    moment_from_parts =
        let since = since_is seconds_from_parts in
        let moment_is = is.moment_is in
        omega (arith, ints, since, moment_is, rest_from_parts)

-- ---- the last number of fields is one of 64 bits
payload_small : (p : Payload) (n a start : ℕ) (text : List ℕ) → IsPayload p start text → (d : ℕ) → d < 2 ^ 64 → last_or d (varint_in (record { number = n; payload = p; at = a })) < 2 ^ 64
payload_small (varint v) n a start text is d small = is.fits
payload_small (eight v) n a start text is d small = small
payload_small (four v) n a start text is d small = small
payload_small (delimited_at inside bytes) n a start text is d small = small

field_small : (n : ℕ) (e : FieldAt) (at : ℕ) (text : List ℕ) → IsField e at text → (d : ℕ) → d < 2 ^ 64 → last_or d (cond (eqb e.number n) (varint_in e) []) < 2 ^ 64
field_small n e at text is d small =
    elim (eqb e.number n) as (λ b. last_or d (cond b (varint_in e) []) < 2 ^ 64) [
      | true ↦ payload_small e.payload e.number e.at (at + length is.tag) is.payload is.payload_is d small
      | false ↦ small
    ]

numbers_small : (n : ℕ) (es : List FieldAt) (at : ℕ) (bytes : List ℕ) → AreFields es at bytes → (d : ℕ) → d < 2 ^ 64 → last_or d (picked varint_in n es) < 2 ^ 64
numbers_small n [] at bytes is d small = small
numbers_small n (e ∷ es) at bytes (text, rest, is, one, others) d small =
    let first : List ℕ = cond (eqb e.number n) (varint_in e) [] in
    let parts : last_or d (picked varint_in n (e ∷ es)) ≡ last_or (last_or d first) (picked varint_in n es) = last_or-append d first (picked varint_in n es) in
    subst (λ (m : ℕ). m < 2 ^ 64) (sym parts) (numbers_small n es (at + length text) rest others (last_or d first) (field_small n e at text one d small))

pub last_number_small : (n : ℕ) (es : List FieldAt) (at : ℕ) (bytes : List ℕ) → AreFields es at bytes → last_number n es < 2 ^ 64
last_number_small n es at bytes is = numbers_small n es at bytes is 0 (omega arith)

-- ---- moments
pub moment_parts : (es : List FieldAt) → last_number 1 es < 2 ^ 64 → is_moment es ≡ true → ArePartsOf (last_number 1 es) (last_number 2 es) (moment es)
moment_parts es small h =
    let both = and_parts _ _ h in
    parts_from_range (last_number 1 es) (last_number 2 es) small (ltb-true _ _ both.0) (ltb-true _ _ both.1)

pub parts_moment : (es : List FieldAt) (m : ℕ) → last_number 1 es < 2 ^ 64 → ArePartsOf (last_number 1 es) (last_number 2 es) m → (is_moment es ≡ true) × (moment es ≡ m)
parts_moment es m small is =
    let seconds : ℕ = last_number 1 es in
    let nanos : ℕ = last_number 2 es in
    let rest = rest_from_parts seconds nanos small m is in
    let in_second : low_half nanos < 1_000_000_000 = rw rest is.parts.below_second in (
      and_from _ _ (lt-ltb _ _ (seconds_from_parts seconds nanos small m is)) (lt-ltb _ _ in_second),
      moment_from_parts seconds nanos small m is,
    )

-- ---- timestamps
tests_pass : (place : ℕ) (es : List FieldAt) → is_moment es ≡ true → timestamp_tests place es ≡ None
tests_pass place es h = ap (λ (b : Bool). cond b None (Some (errors.Timestamp place))) h

passed : (place : ℕ) (es : List FieldAt) → timestamp_tests place es ≡ None → is_moment es ≡ true
passed place es h =
    elim (is_moment es) as (λ b. is_moment es ≡ b → cond b None (Some (errors.Timestamp place)) ≡ None → is_moment es ≡ true) [
      | true ↦ λ t k. t
      | false ↦ λ t k. absurd (none_some _ (sym k))
    ] refl h

-- nothing is at fault inside a timestamp's fields
abbrev none : Option WireError
none = None

inside_clean : (e : FieldAt) → timestamp.inside e ≡ None
inside_clean e =
    elim (eqb e.number 1) as (λ b. cond b none (cond (eqb e.number 2) none none) ≡ none) [
      | true ↦ refl
      | false ↦ elim (eqb e.number 2) as (λ b. cond b none none ≡ none) [ true ↦ refl | false ↦ refl ]
    ]

abbrev IsClean : FieldAt → Type 0
IsClean e = timestamp.inside e ≡ None

all_clean : (es : List FieldAt) → All IsClean es
all_clean [] = All-nil IsClean
all_clean (e ∷ es) = All-cons IsClean e es (inside_clean e) (all_clean es)

module _ (moment_read at : ℕ) (bytes : List ℕ) where
  pub timestamp_found : reads_moment at bytes ≡ Ok moment_read → IsTimestampOf moment_read at bytes
  unfolding reads_moment
  timestamp_found h =
      let is = message_found timestamp timestamp_tests moment at at bytes moment_read h in
      let small = last_number_small 1 is.fields at bytes is.sound.fields in
      let parts = moment_parts is.fields small (passed at is.fields is.passes) in
      record {
        fields = is.fields;
        are_fields = is.sound.fields;
        fit = is.sound.fit;
        parts = subst (λ (k : ℕ). ArePartsOf (last_number 1 is.fields) (last_number 2 is.fields) k) is.value_is parts;
      }

  pub timestamp_read : IsTimestampOf moment_read at bytes → reads_moment at bytes ≡ Ok moment_read
  unfolding reads_moment
  timestamp_read is =
      let small = last_number_small 1 is.fields at bytes is.are_fields in
      let p = parts_moment is.fields moment_read small is.parts in
      message_read timestamp timestamp_tests moment at at bytes moment_read (record {
        fields = is.fields;
        sound = record { fields = is.are_fields; fit = is.fit; clean = all_clean is.fields };
        passes = tests_pass at is.fields p.0;
        value_is = p.1;
      })
