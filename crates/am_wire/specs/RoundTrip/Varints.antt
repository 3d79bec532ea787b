-- A spelled number is read, and the shortest spelling is a spelling.
use Rattle.std.proofs.Common.{◌≡◌, ℕ, zero, suc, ◌+◌, ◌*◌, ◌/◌, ◌%◌, ◌^◌, ◌<◌, ◌≤◌, ltb, cond, true, false, List, [], ◌∷◌, ◌++◌, length}
use Rattle.std.proofs.Common.{Result, Ok, sym, ap, ◌∙◌, arith, inl, inr}
use Rattle.std.proofs.lemmas.Bool.{lt-ltb, le-ltb, cases_lt}
use Rattle.am_wire.specs.declared.error.WireError.{WireError}
use Rattle.am_wire.specs.Varint.{total, IsChain, varint_within, groups, IsVarint, shortest}

-- the result of reading a spelling: its number and its length
abbrev done : ℕ → ℕ → Result (ℕ × ℕ) WireError
done n len = Ok (n, len)

-- the bound of the numbers that `room` + 1 bytes can spell, if the last one of all of them is below 2
abbrev pub bound : ℕ → ℕ
bound zero = 2
bound (suc room) = 128 * bound room

-- a spelled number is read, whatever follows
pub spelled : (at room : ℕ) (text rest : List ℕ) → IsChain text → length text ≤ room + 1 → total text < bound room
    → varint_within at room (text ++ rest) ≡ Ok (total text, length text)
unfolding varint_within
spelled at room [] rest chain len fits = absurd chain
spelled at zero (b ∷ []) rest chain len fits =
    let e : b % 128 ≡ b = omega arith in
    let t : ltb b 2 ≡ true = lt-ltb _ _ (omega (arith, fits)) in
    let v : b ≡ b % 128 + 128 * 0 = omega arith in
    rw t (ap (λ (n : ℕ). done n 1) v)
spelled at (suc room) (b ∷ []) rest chain len fits =
    let t : ltb b 128 ≡ true = lt-ltb _ _ chain in
    let v : b ≡ b % 128 + 128 * 0 = omega arith in
    rw t (ap (λ (n : ℕ). done n 1) v)
spelled at zero (b ∷ c ∷ bs) rest chain len fits = absurd (omega (arith, len))
spelled at (suc room) (b ∷ c ∷ bs) rest chain len fits =
    let t : ltb b 128 ≡ false = le-ltb _ _ chain.0 in
    let more = spelled at room (c ∷ bs) rest chain.1 (omega (arith, len)) (omega (arith, fits)) in
    let k : length (c ∷ bs) + 1 ≡ length (b ∷ c ∷ bs) = omega arith in
    rw (t, more) (ap (λ (n : ℕ). done (b % 128 + 128 * total (c ∷ bs)) n) k)

-- the bytes spell the number, and have at most `room` + 1 bytes
pub record IsSpelled (room n : ℕ) (text : List ℕ) : Type 0 where
  pub chain : IsChain text
  pub len : length text ≤ room + 1
  pub value : total text ≡ n

pub longer : (b : ℕ) (text : List ℕ) → 128 ≤ b → IsChain text → IsChain (b ∷ text)
longer b [] le chain = absurd chain
longer b (c ∷ bs) le chain = (le, chain)

-- the shortest spelling is a spelling
pub groups_spell : (room n : ℕ) → n < bound room → IsSpelled room n (groups room n)
unfolding groups
groups_spell zero n fits =
    let e : n % 128 ≡ n = omega arith in
    record { chain = omega arith; len = omega arith; value = omega arith }
groups_spell (suc room) n fits =
    elim (cases_lt n 128) [
      | inl lt ↦ let t : ltb n 128 ≡ true = lt-ltb _ _ lt in rw t (record { chain = lt; len = omega arith; value = omega arith })
      | inr le ↦
          let t : ltb n 128 ≡ false = le-ltb _ _ le in
          let more = groups_spell room (n / 128) (omega (arith, fits)) in
          rw t (record {
            chain = longer (128 + n % 128) (groups room (n / 128)) (omega arith) more.chain;
            len = omega (arith, more.len);
            value = omega (arith, more.value);
          })
    ]

-- a number that is written is read back, whatever follows
pub varint_again : (at n : ℕ) (rest : List ℕ) → n < 2 ^ 64 → varint_within at 9 (shortest n ++ rest) ≡ Ok (n, length (shortest n))
varint_again at n rest fits =
    let s = groups_spell 9 n fits in
    let lt : total (groups 9 n) < bound 9 = rw s.value fits in
    spelled at 9 (groups 9 n) rest s.chain s.len lt ∙ ap (λ (v : ℕ). done v (length (groups 9 n))) s.value

-- any spelling is read
pub varint_read : (at n : ℕ) (text rest : List ℕ) → IsVarint text n → varint_within at 9 (text ++ rest) ≡ Ok (n, length text)
varint_read at n text rest v =
    let lt : total text < bound 9 = rw (← v.value) v.fits in
    spelled at 9 text rest v.chain v.short lt ∙ ap (λ (x : ℕ). done x (length text)) (sym v.value)

pub varint_filled : (text : List ℕ) (n : ℕ) → IsVarint text n → 0 < length text
varint_filled [] n v = absurd v.chain
varint_filled (b ∷ text) n v = omega arith

-- the shortest spelling is a spelling
pub shortest_spells : (n : ℕ) → n < 2 ^ 64 → IsVarint (shortest n) n
shortest_spells n fits =
    let s = groups_spell 9 n fits in
    record { chain = s.chain; short = s.len; value = sym s.value; fits = fits }

pub shortest_filled : (n : ℕ) → 0 < length (shortest n)
unfolding groups
shortest_filled n =
    elim (ltb n 128) as
    (λ b. 0 < length (cond b (n ∷ []) ((128 + n % 128) ∷ groups 8 (n / 128)))) [ true ↦ omega arith | false ↦ omega arith ]
