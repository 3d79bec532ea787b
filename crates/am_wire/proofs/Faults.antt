-- Fronts at which no number is spelled.
use Rattle.std.proofs.Common.{◌≡◌, ℕ, zero, suc, ◌<◌, ◌≤◌, ltb, true, false, List, [], ◌∷◌, length, get_or, take, Result, Ok, Err, refl, sym, arith, inl, inr, ◌⊎◌}
use Rattle.std.specs.List.{All}
use Rattle.std.proofs.lemmas.Bool.{lt-ltb, le-ltb, cases_lt}
use Rattle.std.proofs.lemmas.List.Elements.{All-cons, All-head, All-tail}
use Rattle.am_wire.specs.declared.error.WireError.{WireError}
use Rattle.am_wire.specs.declared.error.WireError.TheVariants.{Truncated, LongVarint}
use Rattle.am_wire.specs.Varint.{one_more, varint_within}

abbrev GoesOn : ℕ → Type 0
GoesOn b = 128 ≤ b

-- too few bytes, and each says that another follows
pub record IsCut (room : ℕ) (bytes : List ℕ) : Type 0 where
  pub few : length bytes ≤ room
  pub go_on : All GoesOn bytes

-- the last byte that there is room for holds more than one bit
pub record IsLong (room : ℕ) (bytes : List ℕ) : Type 0 where
  pub enough : room < length bytes
  pub go_on : All GoesOn (take room bytes)
  pub much : 2 ≤ get_or bytes room 0

abbrev ok : ℕ × ℕ → Result (ℕ × ℕ) WireError
ok y = Ok y

one_more-err : (b : ℕ) (r : Result (ℕ × ℕ) WireError) (e : WireError) → one_more b r ≡ Err e → r ≡ Err e
one_more-err b (Ok x) e h = absurd cc
one_more-err b (Err d) e h = h

never : (y : ℕ × ℕ) (e : WireError) → ok y ≡ Err e → ⊥
never y e h = cc

apart : (at : ℕ) → Truncated at ≡ LongVarint at → ⊥
apart at h = cc

err_is : (d e : WireError) → ◌≡◌ {A = Result (ℕ × ℕ) WireError} (Err d) (Err e) → d ≡ e
err_is d e h = cc

pub cut_fails : (at room : ℕ) (bytes : List ℕ) → IsCut room bytes → varint_within at room bytes ≡ Err (Truncated at)
unfolding varint_within
cut_fails at room [] is = refl
cut_fails at zero (b ∷ bytes) is = absurd (omega (arith, is.few))
cut_fails at (suc room) (b ∷ bytes) is =
    let t : ltb b 128 ≡ false = le-ltb _ _ (All-head GoesOn b bytes is.go_on) in
    let more = cut_fails at room bytes (record { few = omega (arith, is.few); go_on = All-tail GoesOn b bytes is.go_on }) in
    rw (t, more) refl

pub long_fails : (at room : ℕ) (bytes : List ℕ) → IsLong room bytes → varint_within at room bytes ≡ Err (LongVarint at)
unfolding varint_within
long_fails at room [] is = absurd (omega (arith, is.enough))
long_fails at zero (b ∷ bytes) is = let t : ltb b 2 ≡ false = le-ltb _ _ is.much in rw t refl
long_fails at (suc room) (b ∷ bytes) is =
    let t : ltb b 128 ≡ false = le-ltb _ _ (All-head GoesOn b (take room bytes) is.go_on) in
    let more = long_fails at room bytes (record { enough = omega (arith, is.enough); go_on = All-tail GoesOn b (take room bytes) is.go_on; much = is.much }) in
    rw (t, more) refl

pub cut_found : (at room : ℕ) (bytes : List ℕ) → varint_within at room bytes ≡ Err (Truncated at) → IsCut room bytes
unfolding varint_within
cut_found at room [] h = record { few = omega arith; go_on = λ k d lt. absurd (omega arith) }
cut_found at zero (b ∷ bytes) h =
    elim (cases_lt b 2) [
      | inl lt ↦ let t : ltb b 2 ≡ true = lt-ltb _ _ lt in absurd (never _ _ (rw t at h))
      | inr le ↦ let t : ltb b 2 ≡ false = le-ltb _ _ le in absurd (apart at (sym (err_is _ _ (rw t at h))))
    ]
cut_found at (suc room) (b ∷ bytes) h =
    elim (cases_lt b 128) [
      | inl lt ↦ let t : ltb b 128 ≡ true = lt-ltb _ _ lt in absurd (never _ _ (rw t at h))
      | inr le ↦
          let t : ltb b 128 ≡ false = le-ltb _ _ le in
          let more = cut_found at room bytes (one_more-err b (varint_within at room bytes) (Truncated at) (rw t at h)) in
          record { few = omega (arith, more.few); go_on = All-cons GoesOn b bytes le more.go_on }
    ]

pub long_found : (at room : ℕ) (bytes : List ℕ) → varint_within at room bytes ≡ Err (LongVarint at) → IsLong room bytes
unfolding varint_within
long_found at room [] h = absurd (apart at (err_is _ _ h))
long_found at zero (b ∷ bytes) h =
    elim (cases_lt b 2) [
      | inl lt ↦ let t : ltb b 2 ≡ true = lt-ltb _ _ lt in absurd (never _ _ (rw t at h))
      | inr le ↦ record { enough = omega arith; go_on = λ k d lt. absurd (omega arith); much = le }
    ]
long_found at (suc room) (b ∷ bytes) h =
    elim (cases_lt b 128) [
      | inl lt ↦ let t : ltb b 128 ≡ true = lt-ltb _ _ lt in absurd (never _ _ (rw t at h))
      | inr le ↦
          let t : ltb b 128 ≡ false = le-ltb _ _ le in
          let more = long_found at room bytes (one_more-err b (varint_within at room bytes) (LongVarint at) (rw t at h)) in
          record { enough = omega (arith, more.enough); go_on = All-cons GoesOn b (take room bytes) le more.go_on; much = more.much }
    ]

-- there is no other fault
pub fault_is : (at room : ℕ) (bytes : List ℕ) (e : WireError) → varint_within at room bytes ≡ Err e → (e ≡ Truncated at) ⊎ (e ≡ LongVarint at)
unfolding varint_within
fault_is at room [] e h = inl (sym (err_is _ _ h))
fault_is at zero (b ∷ bytes) e h =
    elim (cases_lt b 2) [
      | inl lt ↦ let t : ltb b 2 ≡ true = lt-ltb _ _ lt in absurd (never _ _ (rw t at h))
      | inr le ↦ let t : ltb b 2 ≡ false = le-ltb _ _ le in inr (sym (err_is _ _ (rw t at h)))
    ]
fault_is at (suc room) (b ∷ bytes) e h =
    elim (cases_lt b 128) [
      | inl lt ↦ let t : ltb b 128 ≡ true = lt-ltb _ _ lt in absurd (never _ _ (rw t at h))
      | inr le ↦ let t : ltb b 128 ≡ false = le-ltb _ _ le in fault_is at room bytes e (one_more-err b (varint_within at room bytes) e (rw t at h))
    ]
