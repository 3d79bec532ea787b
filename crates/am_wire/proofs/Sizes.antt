-- Lengths that are counted before the bytes are there.
use Rattle.std.proofs.Common.{◌≡◌, ℕ, zero, suc, ◌+◌, ◌-◌, ◌*◌, ◌/◌, ◌^◌, ◌<◌, ◌≤◌, ltb, true, false, ◌++◌, length, refl, sym, ap, ◌∙◌, arith, inl, inr}
use Rattle.std.proofs.lemmas.Bool.{lt-ltb, le-ltb, cases_lt}
use Rattle.std.proofs.lemmas.Nat.{leading_top, pow-add, pow_pos}
use Rattle.std.proofs.Common.{pow-suc}
use Rattle.std.proofs.Math.Pow.{pow_mono}
use Rattle.std.specs.Int.Count.{count_leading_zeros}
use Rattle.am_wire.specs.Varint.{groups, shortest}

-- ---- numbers
-- a number below 128 is one group
pub one_group : (room n : ℕ) → n < 128 → length (groups room n) ≡ 1
unfolding groups
one_group zero n lt = refl
one_group (suc room) n lt = let t : ltb n 128 ≡ true = lt-ltb _ _ lt in rw t refl

last_group : (n : ℕ) → length (groups 0 n) ≡ 1
unfolding groups
last_group n = refl

-- another one is the first group and those of the rest
first_group : (room n : ℕ) → 128 ≤ n → length (groups (suc room) n) ≡ suc (length (groups room (n / 128)))
unfolding groups
first_group room n le = let t : ltb n 128 ≡ false = le-ltb _ _ le in rw t refl

-- a number has one group for each seven digits up to its topmost one
pub groups_by_top : (room j n : ℕ) → 2 ^ j ≤ n → n < 2 ^ suc j → j / 7 ≤ room → length (groups room n) ≡ j / 7 + 1
groups_by_top zero j n low high fits = omega (arith, last_group n, fits)
groups_by_top (suc room) j n low high fits =
    elim (cases_lt j 7) [
      | inl lt ↦
          let top : 2 ^ suc j ≤ 2 ^ 7 = pow_mono lt in
          omega (arith, one_group (suc room) n (omega (arith, high, top)), lt)
      | inr le ↦
          let above : 2 ^ j ≡ 2 ^ (j - 7) * 128 = ap (λ (k : ℕ). 2 ^ k) (omega (arith, le)) ∙ pow-add 2 (j - 7) 7 in
          let next : 2 ^ suc j ≡ 2 ^ j * 2 = pow-suc 2 j in
          let next' : 2 ^ suc (j - 7) ≡ 2 ^ (j - 7) * 2 = pow-suc 2 (j - 7) in
          let large : 128 ≤ n = omega (arith, above, low, pow_pos (j - 7)) in
          let rest = groups_by_top room (j - 7) (n / 128) (omega (arith, above, low)) (omega (arith, above, next, next', high)) (omega (arith, le, fits)) in
          omega (arith, first_group room n large, rest, le)
    ]

-- the topmost digit is below the leading zeros
pub size_by_zeros : (n : ℕ) → 0 < n → n < 2 ^ 64 → (63 - count_leading_zeros 64 n) / 7 + 1 ≡ length (shortest n)
size_by_zeros n some fits =
    let top = leading_top 64 n some fits in
    let is : 63 - count_leading_zeros 64 n ≡ top.0 = omega (arith, top.1) in
    rw is (sym (groups_by_top 9 top.0 n top.2 top.3 (omega (arith, top.1))))
