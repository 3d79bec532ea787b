-- The digits that a text begins with.
use Rattle.std.proofs.Common.{◌≡◌, ℕ, ◌<◌, ◌≤◌, List, take, arith, true, length-take}
use Rattle.std.specs.Prelude.{All}
use Rattle.std.specs.Char.{is_ascii_digit}
use Rattle.std.specs.List.{prefix_len}
use Rattle.std.proofs.lemmas.Bool.Decides.{nat_tests}
use Rattle.std.proofs.lemmas.List.{get_or-take}
use Rattle.std.proofs.lemmas.List.Sums.{prefix_len_passes}
use Rattle.std.proofs.lemmas.List.Folds.{length-prefix_len}
use Rattle.am_silence_json.specs.Fractions.{digit_count}

digit_bounds : (b : ℕ) → is_ascii_digit b ≡ true → (48 ≤ b) × (b ≤ 57)
digit_bounds b h = (grind (arith, nat_tests), grind (arith, nat_tests))

-- each of them is one
pub front_digits : (xs : List ℕ) (n : ℕ) → n ≡ digit_count xs → All (λ d. (48 ≤ d) × (d ≤ 57)) (take n xs)
front_digits xs n e = λ k d h.
    let short : k < n = omega (arith, length-take {A = ℕ}) in
    let within : k < prefix_len is_ascii_digit xs = omega (arith, length-prefix_len is_ascii_digit xs) in
    rw get_or-take (digit_bounds _ (prefix_len_passes is_ascii_digit xs k d within))
