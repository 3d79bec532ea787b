-- The order of lists that are equal in front.
use Rattle.std.specs.Prelude.{◌≡◌, ◌≢◌, ℕ, ◌+◌, ◌*◌, ◌<◌, ◌≤◌, List, [], ◌∷◌, length, take, drop, get_or, min}
use Rattle.std.specs.declared.cmp.Ordering.{Ordering}
use Rattle.std.specs.declared.cmp.Ordering.TheVariants.{Less, Equal, Greater}
use Rattle.std.specs.Ordering.{nat_cmp, ordering_then, MatchOrdering}
use Rattle.std.specs.Int.{w64, from_be_bytes, to_be_bytes}
use Rattle.std.specs.Cmp.{nat_cmp_is}
use Rattle.std.specs.Cmp.Lexicographic.{slice_cmp}
use Rattle.std.proofs.Common.{refl, sym, ap, ◌∙◌, zero, suc, arith}
use Rattle.std.proofs.lemmas.Cmp.{ranked}
use Rattle.std.proofs.lemmas.List.{length-take-le}
use Rattle.std.proofs.lemmas.Nat.{be_bytes_8, mul-le}

-- numbers below 256
abbrev pub Bytes : List ℕ → Type 0
Bytes xs = (i : ℕ) → get_or xs i 0 < 256

-- where the first elements are equal the others decide
passed : (x y : ℕ) (r : Ordering) → x ≡ y → r ≡ ordering_then (nat_cmp x y) r
passed x y r e = ap (λ o. ordering_then o r) (nat_cmp_is x y Equal e)

decides : (o r : Ordering) → (o ≢ Equal) → o ≡ ordering_then o r
decides Less r n = refl
decides Equal r n = absurd (n refl)
decides Greater r n = refl

-- the first elements that differ decide
pub first_decides : (n : ℕ) (xs ys : List ℕ) → take n xs ≡ take n ys → n < length xs → n < length ys → (get_or xs n 0 ≢ get_or ys n 0) → nat_cmp (get_or xs n 0) (get_or ys n 0) ≡ slice_cmp nat_cmp xs ys
first_decides n [] ys e a b d = absurd (omega arith)
first_decides n (x ∷ xs) [] e a b d = absurd (omega arith)
first_decides zero (x ∷ xs) (y ∷ ys) e a b d = decides (nat_cmp x y) (slice_cmp nat_cmp xs ys) (λ o. d (ranked x y Equal (sym o)))
first_decides (suc n) (x ∷ xs) (y ∷ ys) e a b d =
    first_decides n xs ys (ap (drop 1) e) (omega arith) (omega arith) d ∙ passed x y (slice_cmp nat_cmp xs ys) (ap (λ l. get_or l 0 0) e)

shifted : (a b : ℕ) (r : Ordering) → MatchOrdering r (a < b) (a ≡ b) (b < a) → MatchOrdering r (suc a < suc b) (suc a ≡ suc b) (suc b < suc a)
shifted a b Less h = let l : a < b = h in omega arith
shifted a b Equal h = let l : a ≡ b = h in omega arith
shifted a b Greater h = let l : b < a = h in omega arith

-- where none differ the lengths decide
pub lengths_decide : (n : ℕ) (xs ys : List ℕ) → take n xs ≡ take n ys → n ≡ min (length xs) (length ys) → nat_cmp (length xs) (length ys) ≡ slice_cmp nat_cmp xs ys
lengths_decide n [] [] e m = sym (nat_cmp_is 0 0 Equal refl)
lengths_decide n [] (y ∷ ys) e m = sym (nat_cmp_is 0 (suc (length ys)) Less (omega arith))
lengths_decide n (x ∷ xs) [] e m = sym (nat_cmp_is (suc (length xs)) 0 Greater (omega arith))
lengths_decide zero (x ∷ xs) (y ∷ ys) e m = absurd (omega arith)
lengths_decide (suc n) (x ∷ xs) (y ∷ ys) e m =
    sym (nat_cmp_is (suc (length xs)) (suc (length ys)) (nat_cmp (length xs) (length ys)) (shifted (length xs) (length ys) _ (ranked (length xs) (length ys) _ refl)))
    ∙ lengths_decide n xs ys (ap (drop 1) e) (omega arith) ∙ passed x y (slice_cmp nat_cmp xs ys) (ap (λ l. get_or l 0 0) e)

-- what is equal in front doesn't decide
pub alike : (n : ℕ) (xs ys : List ℕ) → take n xs ≡ take n ys → n ≤ length xs → n ≤ length ys → slice_cmp nat_cmp (drop n xs) (drop n ys) ≡ slice_cmp nat_cmp xs ys
alike zero xs ys e a b = refl
alike (suc n) [] ys e a b = absurd (omega arith)
alike (suc n) (x ∷ xs) [] e a b = absurd (omega arith)
alike (suc n) (x ∷ xs) (y ∷ ys) e a b = alike n xs ys (ap (drop 1) e) (omega arith) (omega arith) ∙ passed x y (slice_cmp nat_cmp xs ys) (ap (λ l. get_or l 0 0) e)

pub dropped : (m : ℕ) (xs : List ℕ) → Bytes xs → Bytes (drop m xs)
dropped zero xs p = p
dropped (suc m) [] p = p
dropped (suc m) (x ∷ xs) p = dropped m xs (λ i. p (suc i))

taken : (n : ℕ) (xs : List ℕ) → Bytes xs → Bytes (take n xs)
taken zero xs p i = omega arith
taken (suc n) [] p i = p i
taken (suc n) (x ∷ xs) p zero = p zero
taken (suc n) (x ∷ xs) p (suc i) = taken n xs (λ j. p (suc j)) i

-- ---- a word as a number: its bytes, each times its weight
abbrev worth : List ℕ → List ℕ → ℕ
worth [] xs = 0
worth (w ∷ ws) [] = 0
worth (w ∷ ws) (x ∷ xs) = x * w + worth ws xs

abbrev most : List ℕ → ℕ
most [] = 0
most (w ∷ ws) = 255 * w + most ws

-- a weight is more than all that come after it can count
abbrev Fall : List ℕ → Type 0
Fall [] = Unit {0}
Fall (w ∷ ws) = (most ws < w) × Fall ws

at_most : (ws xs : List ℕ) → Bytes xs → worth ws xs ≤ most ws
at_most [] xs small = omega arith
at_most (w ∷ ws) [] small = omega arith
at_most (w ∷ ws) (x ∷ xs) small =
    let rest = at_most ws xs (λ i. small (suc i)) in
    let first = small 0 in
    let part : x * w ≤ 255 * w = mul-le x w 255 w (omega arith) (omega arith) in
    omega arith

-- a lesser first byte makes a lesser number
lesser : (w x y : ℕ) (ws xs ys : List ℕ) → most ws < w → Bytes xs → x < y → worth (w ∷ ws) (x ∷ xs) < worth (w ∷ ws) (y ∷ ys)
lesser w x y ws xs ys falls small less =
    let step : (x + 1) * w ≤ y * w = mul-le (x + 1) w y w (omega arith) (omega arith) in
    let wide : (x + 1) * w ≡ x * w + w = omega arith in
    let rest = at_most ws xs small in
    omega arith

moved : (c d a b : ℕ) (r : Ordering) → c ≡ d → MatchOrdering r (a < b) (a ≡ b) (b < a) → MatchOrdering r (c + a < d + b) (c + a ≡ d + b) (d + b < c + a)
moved c d a b Less e h = let l : a < b = h in omega arith
moved c d a b Equal e h = let l : a ≡ b = h in omega arith
moved c d a b Greater e h = let l : b < a = h in omega arith

-- where two words differ as numbers, these decide
worths_decide : (ws : List ℕ) → Fall ws → (xs ys : List ℕ) → Bytes xs → Bytes ys → length ws ≤ length xs → length ws ≤ length ys → worth ws xs ≢ worth ws ys → nat_cmp (worth ws xs) (worth ws ys) ≡ slice_cmp nat_cmp xs ys
worths_decide [] falls xs ys p q a b differ = absurd (differ refl)
worths_decide (w ∷ ws) falls [] ys p q a b differ = absurd (omega arith)
worths_decide (w ∷ ws) falls (x ∷ xs) [] p q a b differ = absurd (omega arith)
worths_decide (w ∷ ws) falls (x ∷ xs) (y ∷ ys) p q a b differ = by (nat_cmp x y) refl (worths_decide ws falls.1 xs ys (λ i. p (suc i)) (λ i. q (suc i)) (omega arith) (omega arith)) where
  by : (o : Ordering) → nat_cmp x y ≡ o → (worth ws xs ≢ worth ws ys → nat_cmp (worth ws xs) (worth ws ys) ≡ slice_cmp nat_cmp xs ys) → nat_cmp (worth (w ∷ ws) (x ∷ xs)) (worth (w ∷ ws) (y ∷ ys)) ≡ ordering_then o (slice_cmp nat_cmp xs ys)
  by Less is rest = sym (nat_cmp_is _ _ Less (lesser w x y ws xs ys falls.0 (λ i. p (suc i)) (ranked x y Less (sym is))))
  by Greater is rest = sym (nat_cmp_is _ _ Greater (lesser w y x ws ys xs falls.0 (λ i. q (suc i)) (ranked x y Greater (sym is))))
  by Equal is rest =
      let same : x ≡ y = ranked x y Equal (sym is) in
      let first : x * w ≡ y * w = ap (λ n. n * w) same in
      sym (nat_cmp_is _ _ (nat_cmp (worth ws xs) (worth ws ys)) (moved (x * w) (y * w) (worth ws xs) (worth ws ys) _ first (ranked (worth ws xs) (worth ws ys) _ refl))) ∙ rest (λ e. differ (omega arith))

-- the powers of 256, down from the seventh
abbrev weights : List ℕ
weights = 72_057_594_037_927_936 ∷ 281_474_976_710_656 ∷ 1_099_511_627_776 ∷ 4_294_967_296 ∷ 16_777_216 ∷ 65_536 ∷ 256 ∷ 1 ∷ []

fall : Fall weights
fall = (omega arith, (omega arith, (omega arith, (omega arith, (omega arith, (omega arith, (omega arith, (omega arith, tt))))))))

word_worth : (xs : List ℕ) → 8 ≤ length xs → from_be_bytes w64 (take 8 xs) ≡ worth weights xs
word_worth (a ∷ b ∷ c ∷ d ∷ e ∷ f ∷ g ∷ h ∷ xs) long = omega arith
word_worth [] long = absurd (omega arith)
word_worth (a ∷ []) long = absurd (omega arith)
word_worth (a ∷ b ∷ []) long = absurd (omega arith)
word_worth (a ∷ b ∷ c ∷ []) long = absurd (omega arith)
word_worth (a ∷ b ∷ c ∷ d ∷ []) long = absurd (omega arith)
word_worth (a ∷ b ∷ c ∷ d ∷ e ∷ []) long = absurd (omega arith)
word_worth (a ∷ b ∷ c ∷ d ∷ e ∷ f ∷ []) long = absurd (omega arith)
word_worth (a ∷ b ∷ c ∷ d ∷ e ∷ f ∷ g ∷ []) long = absurd (omega arith)

module _ (xs ys : List ℕ) (p : Bytes xs) (q : Bytes ys) (a : 8 ≤ length xs) (b : 8 ≤ length ys) where
  pub words_decide : from_be_bytes w64 (take 8 xs) ≢ from_be_bytes w64 (take 8 ys) → nat_cmp (from_be_bytes w64 (take 8 xs)) (from_be_bytes w64 (take 8 ys)) ≡ slice_cmp nat_cmp xs ys
  words_decide differ =
      let one = word_worth xs a in
      let other = word_worth ys b in
      (λ i. nat_cmp (one i) (other i)) ∙ worths_decide weights fall xs ys p q (omega arith) (omega arith) (λ same. differ (one ∙ same ∙ sym other))

  -- where they are equal, what stands behind them does
  pub words_pass : from_be_bytes w64 (take 8 xs) ≡ from_be_bytes w64 (take 8 ys) → slice_cmp nat_cmp (drop 8 xs) (drop 8 ys) ≡ slice_cmp nat_cmp xs ys
  words_pass same =
      let own : (zs : List ℕ) → Bytes zs → 8 ≤ length zs → to_be_bytes w64 (from_be_bytes w64 (take 8 zs)) ≡ take 8 zs
      = λ zs r l. be_bytes_8 (take 8 zs) _ (length-take-le 8 zs l) (taken 8 zs r) refl in
      alike 8 xs ys (sym (own xs p a) ∙ ap (to_be_bytes w64) same ∙ own ys q b) a b
