-- Decimal digits and what std's `parse` makes of them.
use Rattle.std.proofs.Common.{◌≡◌, ℕ, ◌<◌, ◌^◌, true, List, length, Result, Ok, Err, rules}
use Rattle.std.specs.List.{list_all}
use Rattle.std.specs.Char.{is_ascii_digit}
use Rattle.std.specs.Result.{OkIff}
use Rattle.std.specs.Str.Parse.{ParsesUnsigned}
use Rattle.std.proofs.lemmas.Result.{OkIff-at_ok, OkIff-at_err}
use Rattle.std.proofs.lemmas.Str.Parse.{IsNumeralModel, numerals_by_fold, parse_digits}
use Rattle.am_peers.specs.Peers.{IsNumber, decimal_of, decimal_behind}

pub own : IsNumeralModel (λ ds. list_all is_ascii_digit ds ≡ true) (decimal_behind 0)
own = numerals_by_fold _ (search rules) decimal_behind (search rules)

-- what is parsed of digits
pub parsed : {E : Type 0} (word : List ℕ) (r : Result ℕ E) → ParsesUnsigned 64 10 word r → list_all is_ascii_digit word ≡ true → OkIff r ((0 < length word) × (decimal_of word < 2 ^ 64)) (decimal_of word)
unfolding decimal_of
parsed word r h digits = parse_digits own 64 word r h digits

pub number_ok : {E : Type 0} (word : List ℕ) (r : Result ℕ E) (n : ℕ) → ParsesUnsigned 64 10 word r → 0 < length word → list_all is_ascii_digit word ≡ true → r ≡ Ok n → (IsNumber word × (decimal_of word < 2 ^ 64)) × (n ≡ decimal_of word)
number_ok word r n h some digits is =
    let fits = OkIff-at_ok r _ _ n (parsed word r h digits) is in
    ((record { some = some; digits = digits }, fits.0.1), fits.1)

pub number_err : {E : Type 0} (word : List ℕ) (r : Result ℕ E) (e : E) → ParsesUnsigned 64 10 word r → list_all is_ascii_digit word ≡ true → r ≡ Err e → ¬ (IsNumber word × (decimal_of word < 2 ^ 64))
number_err word r e h digits is = λ fits. OkIff-at_err r _ _ e (parsed word r h digits) is (fits.0.some, fits.1)
