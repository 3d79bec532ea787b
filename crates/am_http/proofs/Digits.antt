-- Numbers that are read digit by digit.
use Rattle.std.proofs.Common.{◌≡◌, ℕ, ◌+◌, ◌-◌, ◌*◌, ◌^◌, ◌<◌, ◌≤◌, true, List, length, get_or, take, IsTrue, All, refl, arith, add-one, lit<}
use Rattle.std.proofs.Math.Nat.{pow-suc, pow-le-pow_right}
use Rattle.std.proofs.lemmas.List.{take_more}
use Rattle.std.proofs.lemmas.List.Elements.{All-push}
use Rattle.std.proofs.lemmas.Int.Digits.{digits_value_more}
use Rattle.std.proofs.lemmas.Str.{digit_value_digit}
use Rattle.std.specs.Char.{is_ascii_digit, digit_value}
use Rattle.std.specs.Int.{IsInRange}
use Rattle.std.specs.Str.Parse.{digits_value}

-- the number of the digits so far is below the next power of ten
pub next_small : (n d i : ℕ) → n < 10 ^ i → d ≤ 9 → n * 10 + d < 10 ^ (i + 1)
next_small n d i small digit = let step = pow-suc 10 i in rw add-one (omega (arith, step))

-- so many digits fit 64 bits
pub still_fits : (n i : ℕ) → n < 10 ^ i → i ≤ 18 → n < 1_000_000_000_000_000_000
still_fits n i small few = let most : 10 ^ i ≤ 10 ^ 18 = pow-le-pow_right (lit< tt) few in omega (arith, most)

-- one digit more
pub number_more : (bs : List ℕ) (i n : ℕ) → i < length bs → IsInRange 48 57 (get_or bs i 0) → n ≡ digits_value 10 (take i bs) → n * 10 + (get_or bs i 0 - 48) ≡ digits_value 10 (take (i + 1) bs)
number_more bs i n inside range is =
    let digit = digit_value_digit (get_or bs i 0) range in
    let value : digit_value (get_or bs i 0) ≡ get_or bs i 0 - 48 = omega (arith, digit) in
    rw (digits_value_more 10 bs i inside, ← is, value) refl

pub digits_more : (bs : List ℕ) (i : ℕ) → i < length bs → is_ascii_digit (get_or bs i 0) ≡ true → All (λ b. IsTrue (is_ascii_digit b)) (take i bs) → All (λ b. IsTrue (is_ascii_digit b)) (take (i + 1) bs)
digits_more bs i inside digit so_far = rw (take_more bs i 0 inside) (All-push (λ b. IsTrue (is_ascii_digit b)) (take i bs) (get_or bs i 0) so_far digit)
