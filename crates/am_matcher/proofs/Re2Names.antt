-- Names that come twice.
use Rattle.std.proofs.Common.{◌≡◌, ◌≢◌, ℕ, ◌+◌, ◌<◌, ◌≤◌, Bool, true, false, not, List, [], ◌∷◌, ◌++◌, length, take, drop, map, get_or, arith, ap, subst, if◌then◌else◌, refl, sym, ◌∙◌, Global, String, string_bytes}
use Rattle.std.specs.Prelude.{AllPairs, bytes_eq}
use Rattle.std.specs.List.{list_any}
use Rattle.std.proofs.lemmas.List.{take_more, map-append, take_all}
use Rattle.std.proofs.lemmas.List.Folds.{Any-from_list_any, list_any-append}
use Rattle.std.proofs.lemmas.Grind.{common_steps}
use Rattle.std.proofs.lemmas.Slice.Eq.{bytes_eq-Decides}

abbrev has : List (List ℕ) → List ℕ → Bool
has names name = list_any (λ other. bytes_eq other name) names

bytes_eq-true : (a b : List ℕ) → bytes_eq a b ≡ true → a ≡ b
bytes_eq-true a b e = grind (arith, common_steps, bytes_eq-Decides a b)

pub apart_more : (names : List (List ℕ)) (name : List ℕ) → AllPairs ◌≢◌ names → has names name ≡ false → AllPairs ◌≢◌ (names ++ name ∷ [])
apart_more names name apart none = λ i j d below within. grind (arith, common_steps, apart i j d, bytes_eq-Decides)

pub not_apart : (names rest : List (List ℕ)) (name : List ℕ) → has names name ≡ true → AllPairs ◌≢◌ (names ++ name ∷ rest) → ⊥
not_apart names rest name some apart =
    let (k, other, within, is, same) = Any-from_list_any (λ other. bytes_eq other name) names some in
    let front : get_or (names ++ name ∷ rest) k other ≡ other = grind (arith, common_steps) in
    let here : get_or (names ++ name ∷ rest) (length names) other ≡ name = grind (arith, common_steps) in
    let long : length names < length (names ++ name ∷ rest) = grind (arith, common_steps) in
    apart k (length names) other within long (front ∙ bytes_eq-true other name same ∙ sym here)

-- ---- so far as the walk has come
-- so many names, as bytes
abbrev pub bytes_of : ℕ → List (String Global) → List (List ℕ)
bytes_of n names = map string_bytes (take n names)

-- these are kept
abbrev pub Keeps : (List ℕ → Bool) → List (List ℕ) → Type 0
Keeps seen names = (bytes : List ℕ) → seen bytes ≡ has names bytes

-- the place has this name
record IsAt (names : List (String Global)) (n : ℕ) (name : String Global) : Type 0 where
  within : n < length names
  is : name ≡ get_or names n name

bytes_of-more : (names : List (String Global)) (n : ℕ) (name : String Global) → IsAt names n name → bytes_of (n + 1) names ≡ bytes_of n names ++ string_bytes name ∷ []
bytes_of-more names n name at = grind (arith, common_steps, take_more names n name at.within)

split_at : (names : List (String Global)) (n : ℕ) (name : String Global) → IsAt names n name → names ≡ take n names ++ name ∷ drop (n + 1) names
split_at names n name at = grind (arith, common_steps)

has-append : (names : List (List ℕ)) (name bytes : List ℕ) → has (names ++ name ∷ []) bytes ≡ (if bytes_eq name bytes then true else has names bytes)
has-append names name bytes = grind (arith, common_steps, list_any-append)

pub keeps_more : (seen new : List ℕ → Bool) (names : List (String Global)) (n : ℕ) (name : String Global) → n < length names → name ≡ get_or names n name → Keeps seen (bytes_of n names) → ((bytes : List ℕ) → new bytes ≡ (if bytes_eq (string_bytes name) bytes then true else seen bytes)) → Keeps new (bytes_of (n + 1) names)
keeps_more seen new names n name within is keeps more = λ bytes.
    more bytes ∙ ap (λ (b : Bool). if bytes_eq (string_bytes name) bytes then true else b) (keeps bytes)
    ∙ sym (has-append (bytes_of n names) (string_bytes name) bytes)
    ∙ ap (λ (all : List (List ℕ)). has all bytes) (sym (bytes_of-more names n name (record { within = within; is = is })))

absent : (seen added : Bool) → added ≡ not seen → added ≡ true → seen ≡ false
absent true added e t = cc
absent false added e t = refl

present : (seen added : Bool) → added ≡ not seen → added ≡ false → seen ≡ true
present true added e t = refl
present false added e t = cc

pub apart_on : (seen : List ℕ → Bool) (names : List (String Global)) (n : ℕ) (name : String Global) (added : Bool) → n < length names → name ≡ get_or names n name → Keeps seen (bytes_of n names) → added ≡ not (seen (string_bytes name)) → added ≡ true → AllPairs ◌≢◌ (bytes_of n names) → AllPairs ◌≢◌ (bytes_of (n + 1) names)
apart_on seen names n name added within is keeps e t apart =
    subst (AllPairs ◌≢◌) (sym (bytes_of-more names n name (record { within = within; is = is })))
    (apart_more (bytes_of n names) (string_bytes name) apart (sym (keeps (string_bytes name)) ∙ absent (seen (string_bytes name)) added e t))

pub comes_twice : (seen : List ℕ → Bool) (names : List (String Global)) (n : ℕ) (name : String Global) (added : Bool) → n < length names → name ≡ get_or names n name → Keeps seen (bytes_of n names) → added ≡ not (seen (string_bytes name)) → added ≡ false → AllPairs ◌≢◌ (map string_bytes names) → ⊥
comes_twice seen names n name added within is keeps e t apart =
    let whole : map string_bytes names ≡ bytes_of n names ++ string_bytes name ∷ map string_bytes (drop (n + 1) names) =
    ap (λ (all : List (String Global)). map string_bytes all) (split_at names n name (record { within = within; is = is }))
    ∙ map-append string_bytes (take n names) (name ∷ drop (n + 1) names) in
    not_apart (bytes_of n names) (map string_bytes (drop (n + 1) names)) (string_bytes name)
    (sym (keeps (string_bytes name)) ∙ present (seen (string_bytes name)) added e t) (subst (AllPairs ◌≢◌) whole apart)

pub all_apart : (names : List (String Global)) (n : ℕ) → length names ≤ n → AllPairs ◌≢◌ (bytes_of n names) → AllPairs ◌≢◌ (map string_bytes names)
all_apart names n h apart = subst (λ (all : List (String Global)). AllPairs ◌≢◌ (map string_bytes all)) (take_all n names h) apart
