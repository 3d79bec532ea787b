-- The part that a limit leaves whole, and the content of a window.
use Rattle.std.proofs.Common.{◌≡◌, ℕ, ◌+◌, ◌<◌, ◌≤◌, List, [], ◌++◌, Option, Some, None, length, take, min, ◌∙◌, subst, arith}
use Rattle.std.specs.Prelude.{IfSome, option_map}
use Rattle.std.specs.declared.io.traits.Take.{Take}
use Rattle.std.specs.Io.Take.{take_limit, take_inner, take_remaining}
use Rattle.std.proofs.lemmas.List.{length-take, take_all}

-- what is shorter than the limit was not cut
pub uncut : (limit : ℕ) (bytes : List ℕ) → length (take limit bytes) < limit → take limit bytes ≡ bytes
uncut limit bytes few =
    let least = length-take limit bytes in
    let few : min limit (length bytes) < limit = subst (λ n. n < limit) least few in
    take_all limit bytes (omega (min, arith))

-- so the bytes that a limited reader gave are all, where they are fewer
pub all_of : (limit : ℕ) (known : Option (List ℕ)) (got : List ℕ) → IfSome (option_map (take limit) known) (λ bytes. got ≡ [] ++ bytes) → length got < limit → IfSome known (λ bytes. got ≡ bytes)
all_of limit None got is few = tt
all_of limit (Some bytes) got is few = is ∙ uncut limit bytes (subst (λ xs. length xs < limit) is few)

pub all_read : {R : Type 0} (remaining : R → Option (List ℕ)) (t : Take R) (reader : R) (most : ℕ) (old got : List ℕ) → take_limit t ≡ most + 1 → take_inner t ≡ reader → old ≡ [] → IfSome (take_remaining remaining t) (λ bytes. got ≡ old ++ bytes) → length got ≤ most → IfSome (remaining reader) (λ bytes. got ≡ bytes)
all_read {R} remaining t reader most old got is_limit is_inner none read few =
    let fresh = subst (λ xs. IfSome (take_remaining remaining t) (λ bytes. got ≡ xs ++ bytes)) none read in
    let limited = subst (λ n. IfSome (option_map (take n) (remaining (take_inner t))) (λ bytes. got ≡ [] ++ bytes)) is_limit fresh in
    let whole = subst (λ (r : R). IfSome (option_map (take (most + 1)) (remaining r)) (λ bytes. got ≡ [] ++ bytes)) is_inner limited in
    all_of (most + 1) (remaining reader) got whole (omega arith)

-- the front of a list is not longer than it
pub within : (n : ℕ) (bytes : List ℕ) (m : ℕ) → m ≤ length (take n bytes) → m ≤ length bytes
within n bytes m fits =
    let least = length-take n bytes in
    let fits : m ≤ min n (length bytes) = subst (λ k. m ≤ k) least fits in
    omega (min, arith)
