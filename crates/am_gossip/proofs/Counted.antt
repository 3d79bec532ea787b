-- The groups of a number, one after the other.
use Rattle.std.proofs.Common.{◌≡◌, ℕ, zero, suc, ◌+◌, ◌-◌, ◌*◌, ◌%◌, ◌^◌, ◌<◌, ◌≤◌, ltb, true, false, List, [], ◌∷◌, ◌++◌, length, Result, Ok, Err, refl, sym, ap, ◌∙◌, arith}
use Rattle.std.specs.List.{All}
use Rattle.std.proofs.lemmas.Bool.{lt-ltb, le-ltb}
use Rattle.std.proofs.lemmas.List.Elements.{All-head, All-tail}
use Rattle.std.proofs.Math.Nat.{pow-le-pow_right, pow-succ', mul-le-mul_right}
use Rattle.am_wire.specs.declared.error.WireError.{WireError}
use Rattle.am_wire.specs.declared.error.WireError.TheVariants.{LongVarint}
use Rattle.am_wire.specs.Varint.{total, one_more, varint_within}
use Rattle.am_wire.proofs.Groups.{after, after-start}

abbrev GoesOn : ℕ → Type 0
GoesOn b = 128 ≤ b

abbrev read : ℕ → ℕ → Result (ℕ × ℕ) WireError
read n len = Ok (n, len)

-- no sum or product of a number's groups wraps
pub scale_small : (scale places : ℕ) → scale ≡ 128 ^ places → places ≤ 8 → scale ≤ 2 ^ 56
scale_small scale places is le = let low : 128 ^ places ≤ 2 ^ 56 = pow-le-pow_right {n = 128} (omega arith) le in omega (arith, low, is)

pub group_fits : (scale places group : ℕ) → scale ≡ 128 ^ places → places ≤ 8 → group ≤ 127 → group * scale ≤ 127 * 2 ^ 56
group_fits scale places group is le small =
    let low = scale_small scale places is le in
    let product : group * scale ≤ 127 * scale = mul-le-mul_right scale small in
    omega (arith, low, product)

-- ---- reading goes on behind the groups
after-one_more : (b t s l : ℕ) (r : Result (ℕ × ℕ) WireError) → one_more b (after t s l r) ≡ after (b % 128 + 128 * t) (128 * s) (suc l) r
after-one_more b t s l (Ok x) =
    let a : b % 128 + 128 * (t + s * x.0) ≡ b % 128 + 128 * t + 128 * s * x.0 = omega arith in
    let c : l + x.1 + 1 ≡ suc l + x.1 = omega arith in
    ap (λ (n : ℕ). read n (l + x.1 + 1)) a ∙ ap (λ (n : ℕ). read (b % 128 + 128 * t + 128 * s * x.0) n) c
after-one_more b t s l (Err e) = refl

pub further : (at room : ℕ) (bytes rest : List ℕ) → All GoesOn bytes → length bytes ≤ room
    → varint_within at room (bytes ++ rest) ≡ after (total bytes) (128 ^ length bytes) (length bytes) (varint_within at (room - length bytes) rest)
unfolding varint_within
further at room [] rest go_on le =
    let e : room ≡ room - 0 = omega arith in
    sym (after-start (varint_within at room rest)) ∙ ap (λ (r : ℕ). after 0 1 0 (varint_within at r rest)) e
further at zero (b ∷ bytes) rest go_on le = absurd (omega (arith, le))
further at (suc room) (b ∷ bytes) rest go_on le =
    let t : ltb b 128 ≡ false = le-ltb _ _ (All-head GoesOn b bytes go_on) in
    let others = further at room bytes rest (All-tail GoesOn b bytes go_on) (omega (arith, le)) in
    let scale : 128 * 128 ^ length bytes ≡ 128 ^ suc (length bytes) = sym (pow-succ' 128 (length bytes)) in
    let left : room - length bytes ≡ suc room - suc (length bytes) = omega arith in
    rw (t, others) (after-one_more b (total bytes) (128 ^ length bytes) (length bytes) (varint_within at (room - length bytes) rest)
    ∙ ap (λ (s : ℕ). after (b % 128 + 128 * total bytes) s (suc (length bytes)) (varint_within at (room - length bytes) rest)) scale
    ∙ ap (λ (r : ℕ). after (b % 128 + 128 * total bytes) (128 ^ suc (length bytes)) (suc (length bytes)) (varint_within at r rest)) left)

pub total-append : (bytes : List ℕ) (b : ℕ) → total (bytes ++ b ∷ []) ≡ total bytes + b % 128 * 128 ^ length bytes
total-append [] b = omega arith
total-append (c ∷ bytes) b =
    let others = total-append bytes b in
    let scale = pow-succ' 128 (length bytes) in
    let inner : 128 * (b % 128 * 128 ^ length bytes) ≡ b % 128 * (128 * 128 ^ length bytes) = omega arith in
    rw (others, scale) (omega (arith, inner))

module _ (bytes : List ℕ) (value scale places group byte : ℕ) (places_is : places ≡ length bytes) (value_is : value ≡ total bytes) (scale_is : scale ≡ 128 ^ places) (go_on : All GoesOn bytes) (group_is : group ≡ byte) where
  same_scale : scale ≡ 128 ^ length bytes
  same_scale = scale_is ∙ ap (λ (n : ℕ). 128 ^ n) places_is

  number : total bytes + 128 ^ length bytes * byte ≡ value + group * scale
  number = rw (value_is, group_is, same_scale) (omega arith)

  pub last_ends : places ≡ 9 → group < 2 → (rest : List ℕ) → varint_within 0 9 (bytes ++ byte ∷ rest) ≡ Ok (value + group * scale, length bytes + 1)
  unfolding varint_within
  last_ends nine lt rest =
      let room : 9 - length bytes ≡ 0 = omega arith in
      let t : ltb byte 2 ≡ true = lt-ltb _ _ (omega arith) in
      further 0 9 bytes (byte ∷ rest) go_on (omega arith) ∙ rw (room, t) (ap (λ (n : ℕ). read n (length bytes + 1)) number)

  pub last_fails : places ≡ 9 → 2 ≤ group → (rest : List ℕ) → varint_within 0 9 (bytes ++ byte ∷ rest) ≡ Err (LongVarint 0)
  unfolding varint_within
  last_fails nine le rest =
      let room : 9 - length bytes ≡ 0 = omega arith in
      let t : ltb byte 2 ≡ false = le-ltb _ _ (omega arith) in
      further 0 9 bytes (byte ∷ rest) go_on (omega arith) ∙ rw (room, t) refl

  pub ends : places ≤ 8 → group < 128 → (rest : List ℕ) → varint_within 0 9 (bytes ++ byte ∷ rest) ≡ Ok (value + group * scale, length bytes + 1)
  unfolding varint_within
  ends few lt rest =
      let room : 9 - length bytes ≡ suc (8 - length bytes) = omega arith in
      let t : ltb byte 128 ≡ true = lt-ltb _ _ (omega arith) in
      further 0 9 bytes (byte ∷ rest) go_on (omega arith) ∙ rw (room, t) (ap (λ (n : ℕ). read n (length bytes + 1)) number)

  pub one_group_more : value + group % 128 * scale ≡ total (bytes ++ byte ∷ [])
  one_group_more = sym (total-append bytes byte ∙ rw (value_is, group_is, same_scale) refl)
