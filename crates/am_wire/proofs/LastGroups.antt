-- A spelling whose last byte is not 0 is the shortest.
use Rattle.std.proofs.Common.{◌≡◌, ℕ, zero, suc, ◌+◌, ◌-◌, ◌*◌, ◌/◌, ◌%◌, ◌<◌, ◌≤◌, ltb, true, false, List, [], ◌∷◌, length, get_or, take, length-take, Ok, ap, ◌∙◌, arith, refl}
use Rattle.std.proofs.lemmas.Bool.{lt-ltb, le-ltb}
use Rattle.std.proofs.lemmas.List.{get_or-take}
use Rattle.am_wire.proofs.Spelled.{varint_found}
use Rattle.am_wire.specs.Varint.{total, IsChain, groups, varint_within}

-- all are bytes, and the last is not 0
pub record EndsFull (text : List ℕ) : Type 0 where
  pub bytes : (i : ℕ) → i < length text → get_or text i 0 < 256
  pub last : (k : ℕ) → length text ≡ suc k → 0 < get_or text k 0

behind : (b c : ℕ) (bs : List ℕ) → EndsFull (b ∷ c ∷ bs) → EndsFull (c ∷ bs)
behind b c bs h = record { bytes = λ i lt. h.bytes (suc i) (omega (arith, lt)); last = λ k e. h.last (suc k) (ap suc e) }

filled : (text : List ℕ) → IsChain text → EndsFull text → 0 < total text
filled [] chain h = absurd chain
filled (b ∷ []) chain h = let last : 0 < b = h.last 0 refl in omega (arith, last, chain)
filled (b ∷ c ∷ bs) chain h = omega (arith, filled (c ∷ bs) chain.1 (behind b c bs h))

pub groups_of : (room : ℕ) (text : List ℕ) → IsChain text → length text ≤ room + 1 → EndsFull text → groups room (total text) ≡ text
unfolding groups
groups_of room [] chain len h = absurd chain
groups_of zero (b ∷ []) chain len h =
    let e : (b % 128 + 128 * 0) % 128 ≡ b = omega (arith, chain) in
    ap (λ (x : ℕ). x ∷ []) e
groups_of (suc room) (b ∷ []) chain len h =
    let t : ltb (b % 128 + 128 * 0) 128 ≡ true = lt-ltb _ _ (omega (arith, chain)) in
    let e : b % 128 + 128 * 0 ≡ b = omega (arith, chain) in
    rw t (ap (λ (x : ℕ). x ∷ []) e)
groups_of zero (b ∷ c ∷ bs) chain len h = absurd (omega (arith, len))
groups_of (suc room) (b ∷ c ∷ bs) chain len h =
    let rest = behind b c bs h in
    let some = filled (c ∷ bs) chain.1 rest in
    let byte : b < 256 = h.bytes 0 (omega arith) in
    let n = b % 128 + 128 * total (c ∷ bs) in
    let t : ltb n 128 ≡ false = le-ltb _ _ (omega (arith, some)) in
    let first : 128 + n % 128 ≡ b = omega (arith, byte, chain.0) in
    let others : n / 128 ≡ total (c ∷ bs) = omega arith in
    rw (t, first, others) (ap (λ (x : List ℕ). b ∷ x) (groups_of room (c ∷ bs) chain.1 (omega (arith, len)) rest))

-- what is read in front of bytes is spelled in the shortest way, where its last byte is not 0
module _ (bytes : List ℕ) (n len : ℕ) (small : (i : ℕ) → get_or bytes i 0 < 256) (some : 0 < len) (within : len ≤ length bytes) (last : 0 < get_or bytes (len - 1) 0) where
  ends_full : EndsFull (take len bytes)
  ends_full = record {
    bytes = λ i lt. rw (get_or-take len bytes i 0 (omega (arith, lt, length-take len bytes))) (small i);
    last = λ k e.
        let at : k ≡ len - 1 = omega (arith, e, length-take len bytes, some, within) in
        rw at (rw (get_or-take len bytes (len - 1) 0 (omega (arith, some))) last);
  }

  pub shortest_found : varint_within 0 9 bytes ≡ Ok (n, len) → groups 9 n ≡ take len bytes
  shortest_found read =
      let is = varint_found 0 bytes (n, len) read in
      ap (groups 9) is.value ∙ groups_of 9 (take len bytes) is.chain is.short ends_full
