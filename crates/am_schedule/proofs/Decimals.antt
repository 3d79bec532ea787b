-- Decimal digits and what std's `parse` makes of them.
use Rattle.std.proofs.Common.{inl, inr, suc, lit<, ◌≡◌, ℕ, ◌<◌, ◌≤◌, ◌^◌, ◌-◌, ◌+◌, ◌*◌, Bool, true, false, List, length, Some, None, Result, Ok, Err, rules, arith, sym, refl, ap, ◌∙◌}
use Rattle.std.specs.Prelude.{nat_lt, ◌&&◌, if◌then◌else◌}
use Rattle.std.specs.List.{list_all}
use Rattle.std.specs.Char.{is_ascii_digit}
use Rattle.std.specs.Result.{OkIff}
use Rattle.std.specs.Str.Parse.{ParsesUnsigned}
use lib.Pow.{pow-add}
use Rattle.std.proofs.Math.Nat.{one-le-pow, pow-le-pow_right, pow-suc, mul-le-mul_right}
use Rattle.std.proofs.lemmas.Bool.{lt-ltb, le-ltb, cases_lt}
use Rattle.std.proofs.lemmas.Result.{OkIff-at_ok, OkIff-at_err}
use Rattle.std.proofs.lemmas.Str.Parse.{IsNumeralModel, numerals_by_fold, parse_digits, digits_value_short}
use Rattle.am_schedule.specs.Numbers.{decimal_of, decimal_behind, count_in}

own : IsNumeralModel (λ ds. list_all is_ascii_digit ds ≡ true) (decimal_behind 0)
own = numerals_by_fold _ (search rules) decimal_behind (search rules)

-- what is parsed of digits
parsed : {E : Type 0} (word : List ℕ) (r : Result ℕ E) → ParsesUnsigned 64 10 word r → list_all is_ascii_digit word ≡ true → OkIff r ((0 < length word) × (decimal_of word < 2 ^ 64)) (decimal_of word)
unfolding decimal_of
parsed word r h digits = parse_digits own 64 word r h digits

-- digits are a number where it has 64 bits
digits_count : (word : List ℕ) → 0 < length word → list_all is_ascii_digit word ≡ true → count_in word ≡ (if nat_lt (decimal_of word) (2 ^ 64) then Some (decimal_of word) else None)
unfolding count_in
digits_count word some digits = rw (digits, lt-ltb 0 (length word) some)

pub parsed_ok : {E : Type 0} (word : List ℕ) (r : Result ℕ E) (n : ℕ) → ParsesUnsigned 64 10 word r → 0 < length word → list_all is_ascii_digit word ≡ true → r ≡ Ok n → Some n ≡ count_in word
parsed_ok word r n h some digits e =
    let fits = OkIff-at_ok r _ _ n (parsed word r h digits) e in
    rw (digits_count word some digits, lt-ltb _ _ fits.0.1) (ap Some fits.1)

pub parsed_err : {E : Type 0} (word : List ℕ) (r : Result ℕ E) (e : E) → ParsesUnsigned 64 10 word r → 0 < length word → list_all is_ascii_digit word ≡ true → r ≡ Err e → None ≡ count_in word
parsed_err word r e h some digits is =
    let large : 2 ^ 64 ≤ decimal_of word = elim (cases_lt (decimal_of word) (2 ^ 64)) [ inl small ↦ absurd (OkIff-at_err r _ _ e (parsed word r h digits) is (some, small)) | inr large ↦ large ] in
    rw (digits_count word some digits, le-ltb _ _ large) refl

-- what a number's word is
picked : (a b c : Bool) (v n : ℕ) → (if (a && b) && c then Some v else None) ≡ Some n → (b ≡ true) × (v ≡ n)
picked true true true v n e = (refl, cc)
picked true true false v n e = absurd cc
picked true false c v n e = absurd cc
picked false b c v n e = absurd cc

-- a number of few digits is small
pub short_number : (word : List ℕ) (n k : ℕ) → count_in word ≡ Some n → length word ≤ k → n < 10 ^ k
unfolding count_in decimal_of
short_number word n k e short = let is = picked _ _ _ _ _ e in rw (← is.1) (digits_value_short own word k is.0 short)

-- a fraction has less than a second
pub fraction_below : (word : List ℕ) (n : ℕ) → count_in word ≡ Some n → length word ≤ 9 → n * 10 ^ (9 - length word) < 1_000_000_000
fraction_below word n e short =
    let small : n < 10 ^ length word = short_number word n (length word) e (omega arith) in
    let positive : 0 < 10 ^ (9 - length word) = one-le-pow (9 - length word) 10 (lit< tt) in
    let nine : length word + (9 - length word) ≡ 9 = omega arith in
    let parts : 10 ^ length word * 10 ^ (9 - length word) ≡ 1_000_000_000 = sym (pow-add 10 (length word) (9 - length word)) ∙ ap (λ k. 10 ^ k) nine in
    let product = mul-le-mul_right (10 ^ (9 - length word)) small in
    omega (arith, product, parts, positive)

-- the next hexadecimal digit leaves the number in its bits
pub bits_small : (bits digit i : ℕ) → bits < 16 ^ i → i < 32 → digit < 16 → bits * 16 + digit < 2 ^ 128
bits_small bits digit i small below digit_small =
    let whole : 16 ^ suc i ≤ 16 ^ 32 = let up : suc i ≤ 32 = omega arith in pow-le-pow_right (lit< tt) up in
    let next = pow-suc 16 i in
    omega (arith, whole, next)
