-- Decimal digits and what std's `parse` makes of them.
use Rattle.std.proofs.Common.{inl, inr, ◌≡◌, ℕ, ◌<◌, ◌≤◌, ◌^◌, true, List, length, Some, None, Result, Ok, Err, rules, refl, ap}
use Rattle.std.specs.Prelude.{nat_lt, if◌then◌else◌}
use Rattle.std.specs.List.{list_all}
use Rattle.std.specs.Char.{is_ascii_digit}
use Rattle.std.specs.Result.{OkIff}
use Rattle.std.specs.Str.Parse.{ParsesUnsigned}
use Rattle.std.proofs.lemmas.Bool.{lt-ltb, le-ltb, cases_lt}
use Rattle.std.proofs.lemmas.Result.{OkIff-at_ok, OkIff-at_err}
use Rattle.std.proofs.lemmas.Str.Parse.{IsNumeralModel, numerals_by_fold, parse_digits}
use Rattle.am_api_decisions.specs.Words.{decimal_of, decimal_behind, number_in}

own : IsNumeralModel (λ ds. list_all is_ascii_digit ds ≡ true) (decimal_behind 0)
own = numerals_by_fold _ (search rules) decimal_behind (search rules)

-- what is parsed of digits
parsed : {E : Type 0} (text : List ℕ) (r : Result ℕ E) → ParsesUnsigned 64 10 text r → list_all is_ascii_digit text ≡ true → OkIff r ((0 < length text) × (decimal_of text < 2 ^ 64)) (decimal_of text)
unfolding decimal_of
parsed text r h digits = parse_digits own 64 text r h digits

-- digits are a number where it has 64 bits
digits_number : (text : List ℕ) → 0 < length text → list_all is_ascii_digit text ≡ true → number_in text ≡ (if nat_lt (decimal_of text) (2 ^ 64) then Some (decimal_of text) else None)
unfolding number_in
digits_number text some digits = rw (digits, lt-ltb 0 (length text) some)

pub parsed_ok : {E : Type 0} (text : List ℕ) (r : Result ℕ E) (n : ℕ) → ParsesUnsigned 64 10 text r → 0 < length text → list_all is_ascii_digit text ≡ true → r ≡ Ok n → Some n ≡ number_in text
parsed_ok text r n h some digits e =
    let fits = OkIff-at_ok r _ _ n (parsed text r h digits) e in
    rw (digits_number text some digits, lt-ltb _ _ fits.0.1) (ap Some fits.1)

pub parsed_err : {E : Type 0} (text : List ℕ) (r : Result ℕ E) (e : E) → ParsesUnsigned 64 10 text r → 0 < length text → list_all is_ascii_digit text ≡ true → r ≡ Err e → None ≡ number_in text
parsed_err text r e h some digits is =
    let large : 2 ^ 64 ≤ decimal_of text = elim (cases_lt (decimal_of text) (2 ^ 64)) [ inl small ↦ absurd (OkIff-at_err r _ _ e (parsed text r h digits) is (some, small)) | inr large ↦ large ] in
    rw (digits_number text some digits, le-ltb _ _ large) refl
