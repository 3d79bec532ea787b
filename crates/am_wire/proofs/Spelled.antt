-- A number that is read is spelled.
use Rattle.std.proofs.Common.{◌≡◌, ℕ, zero, suc, ◌+◌, ◌*◌, ◌%◌, ◌<◌, ◌≤◌, ltb, true, false, List, [], ◌∷◌, length, take, Result, Ok, Err, refl, sym, ap, subst, add-one, length-take, arith, inl, inr}
use Rattle.std.proofs.lemmas.Bool.{lt-ltb, le-ltb, cases_lt}
use Rattle.am_wire.specs.declared.error.WireError.{WireError}
use Rattle.am_wire.specs.declared.error.WireError.TheVariants.{LongVarint}
use Rattle.am_wire.specs.Varint.{total, IsChain, one_more, varint_within, IsVarint}
use Rattle.am_wire.specs.RoundTrip.Varints.{bound, longer}

abbrev read_as : ℕ × ℕ → Result (ℕ × ℕ) WireError
read_as y = Ok y

abbrev long : ℕ → Result (ℕ × ℕ) WireError
long at = Err (LongVarint at)

pub more_ok : (b : ℕ) (r : Result (ℕ × ℕ) WireError) (y : ℕ × ℕ) → one_more b r ≡ Ok y → (x : ℕ × ℕ) × (r ≡ Ok x) × (y ≡ (b % 128 + 128 * x.0, x.1 + 1))
more_ok b (Ok x) y e = (x, refl, cc)
more_ok b (Err d) y e = absurd cc

pub record Spells (room : ℕ) (bytes : List ℕ) (n len : ℕ) : Type 0 where
  pub chain : IsChain (take len bytes)
  pub len_in : len ≤ room + 1
  pub within : len ≤ length bytes
  pub value : n ≡ total (take len bytes)
  pub fits : n < bound room

ok_is : (x y : ℕ × ℕ) → read_as x ≡ read_as y → x ≡ y
ok_is x y e = cc

err_ok : (at : ℕ) (y : ℕ × ℕ) → long at ≡ read_as y → ⊥
err_ok at y e = cc

two_bound : (room : ℕ) → 2 ≤ bound room
two_bound zero = omega arith
two_bound (suc room) = omega (arith, two_bound room)

low_bound : (room b : ℕ) → b < 128 → b < bound (suc room)
low_bound room b lt = omega (arith, two_bound room)

-- a byte that says that more follow, and what is read behind it
further : (at room b : ℕ) (bytes : List ℕ) (y : ℕ × ℕ) → 128 ≤ b → one_more b (varint_within at room bytes) ≡ read_as y
    → ((x : ℕ × ℕ) → varint_within at room bytes ≡ Ok x → Spells room bytes x.0 x.1) → Spells (suc room) (b ∷ bytes) y.0 y.1
further at room b bytes y le e rest =
    let m = more_ok b (varint_within at room bytes) y e in
    let s = rest m.0 m.1 in
    let k : m.0.1 + 1 ≡ suc m.0.1 = add-one m.0.1 in
    let front : take (m.0.1 + 1) (b ∷ bytes) ≡ b ∷ take m.0.1 bytes = ap (λ (i : ℕ). take i (b ∷ bytes)) k in
    let made : Spells (suc room) (b ∷ bytes) (b % 128 + 128 * m.0.0) (m.0.1 + 1) = record {
      chain = rw front (longer b (take m.0.1 bytes) le s.chain);
      len_in = omega (arith, s.len_in);
      within = omega (arith, s.within);
      value = rw front (ap (λ (v : ℕ). b % 128 + 128 * v) s.value);
      fits = omega (arith, s.fits);
    } in
    subst (λ (p : ℕ × ℕ). Spells (suc room) (b ∷ bytes) p.0 p.1) (sym m.2) made

-- one byte by itself
single : (at room b : ℕ) (bytes : List ℕ) (y : ℕ × ℕ) → b < 128 → b < bound room → read_as (b, 1) ≡ read_as y → Spells room (b ∷ bytes) y.0 y.1
single at room b bytes y lt fits e =
    subst (λ (p : ℕ × ℕ). Spells room (b ∷ bytes) p.0 p.1) (ok_is (b, 1) y e) (record { chain = lt; len_in = omega arith; within = omega arith; value = omega arith; fits = fits })

pub read_spells : (at room : ℕ) (bytes : List ℕ) (y : ℕ × ℕ) → varint_within at room bytes ≡ Ok y → Spells room bytes y.0 y.1
unfolding varint_within
read_spells at room [] y e = absurd cc
read_spells at zero (b ∷ bytes) y e =
    elim (cases_lt b 2) [
      | inl lt ↦ let t : ltb b 2 ≡ true = lt-ltb _ _ lt in single at 0 b bytes y (omega arith) lt (rw t at e)
      | inr le ↦ let t : ltb b 2 ≡ false = le-ltb _ _ le in let h = rw t at e in absurd (err_ok at y h)
    ]
read_spells at (suc room) (b ∷ bytes) y e =
    elim (cases_lt b 128) [
      | inl lt ↦ let t : ltb b 128 ≡ true = lt-ltb _ _ lt in single at (suc room) b bytes y lt (low_bound room b lt) (rw t at e)
      | inr le ↦ let t : ltb b 128 ≡ false = le-ltb _ _ le in further at room b bytes y le (rw t at e) (read_spells at room bytes)
    ]

pub varint_found : (at : ℕ) (bytes : List ℕ) (y : ℕ × ℕ) → varint_within at 9 bytes ≡ Ok y → IsVarint (take y.1 bytes) y.0
varint_found at bytes y e =
    let s = read_spells at 9 bytes y e in
    record { chain = s.chain; short = omega (arith, s.len_in, length-take y.1 bytes); value = s.value; fits = s.fits }
