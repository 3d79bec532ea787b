-- Numbers whose bytes come one by one, the highest first.
use Rattle.std.proofs.Common.{◌≡◌, ℕ, suc, ◌+◌, ◌*◌, ◌<◌, ◌≤◌, ◌^◌, List, length, drop, get_or, sym, ap, ◌∙◌, arith}
use Rattle.std.proofs.Math.Nat.{pow-succ', pow-le-pow_right}
use Rattle.std.proofs.Math.Seq.{drop-cons}
use Rattle.std.specs.Slice.Scan.{big_endian}

pub next_power : (i : ℕ) → 256 ^ (i + 1) ≡ 256 * 256 ^ i
next_power i = let e : i + 1 ≡ suc i = omega arith in rw e (pow-succ' 256 i)

pub below_more : (value byte i : ℕ) → value < 256 ^ i → byte < 256 → value * 256 + byte < 256 ^ (i + 1)
below_more value byte i h b = omega (arith, next_power i)

pub fits : (value byte i : ℕ) → value < 256 ^ i → byte < 256 → i < 8 → value * 256 + byte < 2 ^ 64
fits value byte i h b few =
    let le : 256 ^ i ≤ 256 ^ 7 = pow-le-pow_right {n = 256} (omega arith) {i = i} {j = 7} (omega arith) in
    omega (arith, le, h, b)

pub one_more : (value i whole : ℕ) (bytes : List ℕ) → i < length bytes → big_endian value (drop i bytes) ≡ whole
    → big_endian (value * 256 + get_or bytes i 0) (drop (i + 1) bytes) ≡ whole
one_more value i whole bytes lt so_far =
    let e : i + 1 ≡ suc i = omega arith in
    let one = drop-cons bytes i 0 lt in
    rw e (sym (ap (λ (l : List ℕ). big_endian value l) one) ∙ so_far)
