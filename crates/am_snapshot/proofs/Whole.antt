-- A row that is whole in some bytes, or whose length is at fault in them, is so whatever follows.
use Rattle.std.proofs.Common.{◌≡◌, ◌≢◌, ℕ, zero, suc, ◌+◌, ◌*◌, ◌%◌, ◌≤◌, ltb, nat_lt, if◌then◌else◌, true, false, List, [], ◌∷◌, ◌++◌, length, take, drop, Result, Ok, Err, refl, ap, ◌∙◌, arith, inl, inr, length-append}
use Rattle.std.proofs.lemmas.Bool.{lt-ltb, le-ltb, cases_lt}
use Rattle.std.proofs.lemmas.List.{take-append-le, drop-append-le}
use Rattle.am_wire.specs.Limits.{most}
use Rattle.am_wire.specs.declared.error.WireError.{WireError}
use Rattle.am_wire.specs.declared.error.WireError.TheVariants.{Truncated, TooLarge}
use Rattle.am_wire.specs.Varint.{one_more, varint_within}
use Rattle.am_wire.specs.Fields.{row_at, ◌>>=◌}

abbrev number : ℕ × ℕ → Result (ℕ × ℕ) WireError
number y = Ok y

abbrev fault : WireError → Result (ℕ × ℕ) WireError
fault e = Err e

pub record IsWhole (at room : ℕ) (bytes rest : List ℕ) (y : ℕ × ℕ) : Type 0 where
  pub same : varint_within at room (bytes ++ rest) ≡ Ok y
  pub within : y.1 ≤ length bytes

one_byte : (b : ℕ) (at room : ℕ) (bytes rest : List ℕ) (y : ℕ × ℕ) → number (b, 1) ≡ Ok y → varint_within at room ((b ∷ bytes) ++ rest) ≡ number (b, 1) → IsWhole at room (b ∷ bytes) rest y
one_byte b at room bytes rest y e same = let p : (b, 1) ≡ y = cc in record { same = same ∙ e; within = let one : 1 ≡ y.1 = ap (λ (q : ℕ × ℕ). q.1) p in omega arith }

more_is : (b : ℕ) (r : Result (ℕ × ℕ) WireError) (y : ℕ × ℕ) → one_more b r ≡ Ok y → (x : ℕ × ℕ) × (r ≡ Ok x) × ((b % 128 + 128 * x.0, x.1 + 1) ≡ y)
more_is b (Ok x) y e = (x, refl, cc)
more_is b (Err d) y e = absurd cc

more_fails : (b : ℕ) (r : Result (ℕ × ℕ) WireError) (e : WireError) → one_more b r ≡ Err e → r ≡ Err e
more_fails b (Ok x) e h = absurd cc
more_fails b (Err d) e h = cc

varint_whole : (at room : ℕ) (bytes rest : List ℕ) (y : ℕ × ℕ) → varint_within at room bytes ≡ Ok y → IsWhole at room bytes rest y
unfolding varint_within
varint_whole at room [] rest y e = absurd (let h : fault (Truncated at) ≡ Ok y = e in cc)
varint_whole at zero (b ∷ bytes) rest y e =
    elim (cases_lt b 2) [
      | inl lt ↦ let t : ltb b 2 ≡ true = lt-ltb _ _ lt in one_byte b at zero bytes rest y (rw t at e) (rw t refl)
      | inr le ↦ let t : ltb b 2 ≡ false = le-ltb _ _ le in let h = rw t at e in absurd cc
    ]
varint_whole at (suc room) (b ∷ bytes) rest y e =
    elim (cases_lt b 128) [
      | inl lt ↦ let t : ltb b 128 ≡ true = lt-ltb _ _ lt in one_byte b at (suc room) bytes rest y (rw t at e) (rw t refl)
      | inr le ↦
          let t : ltb b 128 ≡ false = le-ltb _ _ le in
          let m = more_is b (varint_within at room bytes) y (rw t at e) in
          let further = varint_whole at room bytes rest m.0 m.1 in
          let one : m.0.1 + 1 ≡ y.1 = ap (λ (p : ℕ × ℕ). p.1) m.2 in
          record { same = rw (t, further.same) (ap (λ (p : ℕ × ℕ). number p) m.2); within = omega (arith, further.within, one) }
    ]

varint_fails : (at room : ℕ) (bytes rest : List ℕ) (e : WireError) → varint_within at room bytes ≡ Err e → e ≢ Truncated at → varint_within at room (bytes ++ rest) ≡ Err e
unfolding varint_within
varint_fails at room [] rest e h other = absurd (other (let k : fault (Truncated at) ≡ Err e = h in cc))
varint_fails at zero (b ∷ bytes) rest e h other = h
varint_fails at (suc room) (b ∷ bytes) rest e h other =
    elim (cases_lt b 128) [
      | inl lt ↦ let t : ltb b 128 ≡ true = lt-ltb _ _ lt in let k = rw t at h in absurd cc
      | inr le ↦
          let t : ltb b 128 ≡ false = le-ltb _ _ le in
          let further = varint_fails at room bytes rest e (more_fails b (varint_within at room bytes) e (rw t at h)) other in
          rw (t, further) refl
    ]

-- ---- a row, by its length
abbrev row_by : ℕ → List ℕ → Result (ℕ × ℕ) WireError → Result (List ℕ × ℕ) WireError
row_by at bytes r = r >>= λ n. if nat_lt most n.0 then Err TooLarge else if nat_lt (length (drop n.1 bytes)) n.0 then Err (Truncated at) else Ok (take n.0 (drop n.1 bytes), n.1 + n.0)

abbrev message : List ℕ × ℕ → Result (List ℕ × ℕ) WireError
message y = Ok y

abbrev row_fails : WireError → Result (List ℕ × ℕ) WireError
row_fails e = Err e

row_by_whole : (at : ℕ) (bytes rest : List ℕ) (n : ℕ × ℕ) (y : List ℕ × ℕ) → n.1 ≤ length bytes → row_by at bytes (Ok n) ≡ Ok y → row_by at (bytes ++ rest) (Ok n) ≡ Ok y
row_by_whole at bytes rest n y within h =
    elim (cases_lt most n.0) [
      | inl lt ↦ let t : ltb most n.0 ≡ true = lt-ltb _ _ lt in let k = rw t at h in absurd cc
      | inr le ↦
          let t : ltb most n.0 ≡ false = le-ltb _ _ le in
          elim (cases_lt (length (drop n.1 bytes)) n.0) [
            | inl lt ↦ let s : ltb (length (drop n.1 bytes)) n.0 ≡ true = lt-ltb _ _ lt in let k = rw (t, s) at h in absurd cc
            | inr fits ↦
                let s : ltb (length (drop n.1 bytes)) n.0 ≡ false = le-ltb _ _ fits in
                let tail : drop n.1 (bytes ++ rest) ≡ drop n.1 bytes ++ rest = drop-append-le n.1 bytes rest within in
                let more : ltb (length (drop n.1 bytes ++ rest)) n.0 ≡ false = le-ltb _ _ (omega (arith, fits, length-append (drop n.1 bytes) rest)) in
                let front : take n.0 (drop n.1 bytes ++ rest) ≡ take n.0 (drop n.1 bytes) = take-append-le n.0 (drop n.1 bytes) rest fits in
                let k = rw (t, s) at h in
                rw (t, tail, more, front) k
          ]
    ]

row_by_fails : (at : ℕ) (bytes rest : List ℕ) (n : ℕ × ℕ) (e : WireError) → row_by at bytes (Ok n) ≡ Err e → e ≢ Truncated at → row_by at (bytes ++ rest) (Ok n) ≡ Err e
row_by_fails at bytes rest n e h other =
    elim (cases_lt most n.0) [
      | inl lt ↦ let t : ltb most n.0 ≡ true = lt-ltb _ _ lt in let k = rw t at h in rw t k
      | inr le ↦
          let t : ltb most n.0 ≡ false = le-ltb _ _ le in
          elim (cases_lt (length (drop n.1 bytes)) n.0) [
            | inl lt ↦ let s : ltb (length (drop n.1 bytes)) n.0 ≡ true = lt-ltb _ _ lt in let k = rw (t, s) at h in absurd (other cc)
            | inr fits ↦ let s : ltb (length (drop n.1 bytes)) n.0 ≡ false = le-ltb _ _ fits in let k = rw (t, s) at h in absurd cc
          ]
    ]

row_whole_by : (at : ℕ) (bytes rest : List ℕ) (y : List ℕ × ℕ) (r : Result (ℕ × ℕ) WireError) → varint_within at 9 bytes ≡ r → row_by at bytes r ≡ Ok y → row_by at (bytes ++ rest) (varint_within at 9 (bytes ++ rest)) ≡ Ok y
row_whole_by at bytes rest y (Ok n) found h = let whole = varint_whole at 9 bytes rest n found in rw (whole.same) (row_by_whole at bytes rest n y whole.within h)
row_whole_by at bytes rest y (Err e) found h = absurd cc

row_fails_by : (at : ℕ) (bytes rest : List ℕ) (e : WireError) (r : Result (ℕ × ℕ) WireError) → varint_within at 9 bytes ≡ r → row_by at bytes r ≡ Err e → e ≢ Truncated at → row_by at (bytes ++ rest) (varint_within at 9 (bytes ++ rest)) ≡ Err e
row_fails_by at bytes rest e (Ok n) found h other = let whole = varint_whole at 9 bytes rest n found in rw (whole.same) (row_by_fails at bytes rest n e h other)
row_fails_by at bytes rest e (Err d) found h other =
    let same : d ≡ e = cc in
    let lost : varint_within at 9 bytes ≡ Err e = found ∙ ap (λ (x : WireError). fault x) same in
    rw (varint_fails at 9 bytes rest e lost other) refl

pub row_at-whole : (at : ℕ) (bytes rest : List ℕ) (y : List ℕ × ℕ) → row_at at bytes ≡ Ok y → row_at at (bytes ++ rest) ≡ Ok y
unfolding row_at
row_at-whole at bytes rest y h = row_whole_by at bytes rest y (varint_within at 9 bytes) refl h

pub row_at-fails : (at : ℕ) (bytes rest : List ℕ) (e : WireError) → row_at at bytes ≡ Err e → e ≢ Truncated at → row_at at (bytes ++ rest) ≡ Err e
unfolding row_at
row_at-fails at bytes rest e h other = row_fails_by at bytes rest e (varint_within at 9 bytes) refl h other
