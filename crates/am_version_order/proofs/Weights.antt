-- The number of a text goes by the order of the texts, and fits 64 bits.
use Rattle.std.proofs.Common.{◌≡◌, ℕ, ◌<◌, ◌≤◌, ◌+◌, ◌*◌, Bool, true, false, cond, List, [], ◌∷◌, length, get_or, drop, refl, sym, ap, ◌∙◌, subst, arith, nat_lt}
use Rattle.std.specs.Prelude.{◌^◌, min}
use Rattle.std.proofs.lemmas.List.{drop_more, drop_all}
use Rattle.std.proofs.lemmas.Nat.{mul-le}
use Rattle.std.proofs.lemmas.Bool.Decides.{nat_tests}
use Rattle.std.specs.declared.cmp.Ordering.{Ordering}
use Rattle.std.specs.declared.cmp.Ordering.TheVariants.{Less, Equal, Greater}
use Rattle.std.specs.Ordering.{nat_cmp, ordering_then, ordering_reverse}
use Rattle.std.specs.Cmp.Lexicographic.{slice_cmp}
use Rattle.std.proofs.lemmas.Cmp.{ranked, nat_list_cmp_total}
use Rattle.am_version_order.specs.Heads.{weighed, weights, head_of_text}

-- all of the weights together, times 255
abbrev most : List ℕ → ℕ
most [] = 0
most (w ∷ ws) = 255 * w + most ws

-- a weight is more than all that come after it can count
abbrev Fall : List ℕ → Type 0
Fall [] = Unit {0}
Fall (w ∷ ws) = (most ws < w) × Fall ws

fall : Fall weights
fall = (omega arith, (omega arith, (omega arith, (omega arith, (omega arith, (omega arith, (omega arith, (omega arith, tt))))))))

at_most : (ws bytes : List ℕ) → weighed ws bytes ≤ most ws
at_most [] bytes = omega arith
at_most (w ∷ ws) [] = omega arith
at_most (w ∷ ws) (b ∷ bs) = by (at_most ws bs) (nat_lt b 255) refl where
  by : weighed ws bs ≤ most ws → (t : Bool) → nat_lt b 255 ≡ t → cond t (b * w + weighed ws bs) (255 * w) ≤ most (w ∷ ws)
  by rest true e =
      let small : b < 255 = grind (arith, nat_tests) in
      let part : b * w ≤ 255 * w = mul-le b w 255 w (omega arith) (omega arith) in
      omega arith
  by rest false e = omega arith

-- a lesser first byte is a lesser number or none that is greater
first_less : (w c b : ℕ) (ws xs ys : List ℕ) → most ws < w → c < b → weighed (w ∷ ws) (c ∷ ys) ≤ weighed (w ∷ ws) (b ∷ xs)
first_less w c b ws xs ys fall less = by (nat_lt c 255) (nat_lt b 255) refl refl where
  by : (s t : Bool) → nat_lt c 255 ≡ s → nat_lt b 255 ≡ t → cond s (c * w + weighed ws ys) (255 * w) ≤ cond t (b * w + weighed ws xs) (255 * w)
  by true true d e =
      let step : (c + 1) * w ≤ b * w = mul-le (c + 1) w b w (omega arith) (omega arith) in
      let wide : (c + 1) * w ≡ c * w + w = omega arith in
      let rest = at_most ws ys in
      omega arith
  by true false d e =
      let small : c < 255 = grind (arith, nat_tests) in
      let step : (c + 1) * w ≤ 255 * w = mul-le (c + 1) w 255 w (omega arith) (omega arith) in
      let wide : (c + 1) * w ≡ c * w + w = omega arith in
      let rest = at_most ws ys in
      omega arith
  by false true d e = let big : 255 ≤ c = grind (arith, nat_tests) in let small : b < 255 = grind (arith, nat_tests) in absurd (omega arith)
  by false false d e = omega arith

below : (ws : List ℕ) → Fall ws → (xs ys : List ℕ) → weighed ws xs < weighed ws ys → slice_cmp nat_cmp xs ys ≡ Less
below [] falls xs ys less = absurd (omega arith)
below (w ∷ ws) falls [] [] less = absurd (omega arith)
below (w ∷ ws) falls [] (c ∷ ys) less = refl
below (w ∷ ws) falls (b ∷ xs) [] less = absurd (omega arith)
below (w ∷ ws) falls (b ∷ xs) (c ∷ ys) less = by (below ws falls.1 xs ys) (nat_cmp b c) refl where
  same : (t : Bool) → cond t (b * w + weighed ws xs) (255 * w) < cond t (b * w + weighed ws ys) (255 * w) → weighed ws xs < weighed ws ys
  same true less = omega arith
  same false less = absurd (omega arith)

  by : (weighed ws xs < weighed ws ys → slice_cmp nat_cmp xs ys ≡ Less) → (o : Ordering) → nat_cmp b c ≡ o → ordering_then o (slice_cmp nat_cmp xs ys) ≡ Less
  by rest Less e = refl
  by rest Equal e =
      let alike : c ≡ b = sym (ranked b c Equal (sym e)) in
      rest (same (nat_lt b 255) (subst (λ d. weighed (w ∷ ws) (b ∷ xs) < weighed (w ∷ ws) (d ∷ ys)) alike less))
  by rest Greater e =
      let more : c < b = ranked b c Greater (sym e) in
      let never = first_less w c b ws xs ys falls.0 more in
      absurd (omega arith)

-- two texts whose numbers differ are ordered as the numbers are
pub text_heads : (x y : List ℕ) → ordering_then (nat_cmp (head_of_text x) (head_of_text y)) (slice_cmp nat_cmp x y) ≡ slice_cmp nat_cmp x y
text_heads x y = by (nat_cmp (head_of_text x) (head_of_text y)) refl where
  by : (o : Ordering) → nat_cmp (head_of_text x) (head_of_text y) ≡ o → ordering_then o (slice_cmp nat_cmp x y) ≡ slice_cmp nat_cmp x y
  by Less e = let less : head_of_text x < head_of_text y = ranked (head_of_text x) (head_of_text y) Less (sym e) in sym (below weights fall x y less)
  by Equal e = refl
  by Greater e =
      let less : head_of_text y < head_of_text x = ranked (head_of_text x) (head_of_text y) Greater (sym e) in
      sym (nat_list_cmp_total.antisymm x y ∙ ap ordering_reverse (below weights fall y x less))

then_joined : (a b c : Ordering) → ordering_then a (ordering_then b c) ≡ ordering_then (ordering_then a b) c
then_joined Less b c = refl
then_joined Equal b c = refl
then_joined Greater b c = refl

-- and so where more follows on the texts
pub text_heads_then : (x y : List ℕ) (more : Ordering) → ordering_then (nat_cmp (head_of_text x) (head_of_text y)) (ordering_then (slice_cmp nat_cmp x y) more) ≡ ordering_then (slice_cmp nat_cmp x y) more
text_heads_then x y more = then_joined (nat_cmp (head_of_text x) (head_of_text y)) (slice_cmp nat_cmp x y) more ∙ ap (λ o. ordering_then o more) (text_heads x y)

-- what is left to weigh from a place on
pub weighed_rest : (ws bytes : List ℕ) (place : ℕ) → place < length ws → place < length bytes → weighed (drop place ws) (drop place bytes) ≡ cond (nat_lt (get_or bytes place 0) 255) (get_or bytes place 0 * get_or ws place 0 + weighed (drop (place + 1) ws) (drop (place + 1) bytes)) (255 * get_or ws place 0)
weighed_rest ws bytes place in_ws in_bytes = λ i. weighed (drop_more ws place 0 in_ws i) (drop_more bytes place 0 in_bytes i)

pub weighed_more : (ws bytes : List ℕ) (place : ℕ) → place < length ws → place < length bytes → get_or bytes place 0 < 255 → weighed (drop place ws) (drop place bytes) ≡ get_or bytes place 0 * get_or ws place 0 + weighed (drop (place + 1) ws) (drop (place + 1) bytes)
weighed_more ws bytes place in_ws in_bytes small =
    let test : nat_lt (get_or bytes place 0) 255 ≡ true = grind (arith, nat_tests) in
    weighed_rest ws bytes place in_ws in_bytes ∙ ap (λ t. cond t (get_or bytes place 0 * get_or ws place 0 + weighed (drop (place + 1) ws) (drop (place + 1) bytes)) (255 * get_or ws place 0)) test

pub weighed_last : (ws bytes : List ℕ) (place : ℕ) → place < length ws → place < length bytes → get_or bytes place 0 ≡ 255 → weighed (drop place ws) (drop place bytes) ≡ get_or bytes place 0 * get_or ws place 0
weighed_last ws bytes place in_ws in_bytes full =
    let test : nat_lt (get_or bytes place 0) 255 ≡ false = ap (λ b. nat_lt b 255) full in
    weighed_rest ws bytes place in_ws in_bytes
    ∙ ap (λ t. cond t (get_or bytes place 0 * get_or ws place 0 + weighed (drop (place + 1) ws) (drop (place + 1) bytes)) (255 * get_or ws place 0)) test
    ∙ ap (λ b. b * get_or ws place 0) (sym full)

weighed_none : (ws : List ℕ) → weighed ws [] ≡ 0
weighed_none [] = refl
weighed_none (w ∷ ws) = refl

pub weighed_end : (ws bytes : List ℕ) (place : ℕ) → min (length bytes) (length ws) ≤ place → weighed (drop place ws) (drop place bytes) ≡ 0
weighed_end ws bytes place past = by (nat_lt place (length ws)) refl where
  by : (t : Bool) → nat_lt place (length ws) ≡ t → weighed (drop place ws) (drop place bytes) ≡ 0
  by true e =
      let within : place < length ws = grind (arith, nat_tests) in
      ap (weighed (drop place ws)) (drop_all place bytes (omega arith)) ∙ weighed_none (drop place ws)
  by false e =
      let out : length ws ≤ place = grind (arith, nat_tests) in
      ap (λ xs. weighed xs (drop place bytes)) (drop_all place ws out)
