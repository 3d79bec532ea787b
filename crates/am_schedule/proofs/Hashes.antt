-- The number of numbers that a word can hold.
use Rattle.std.proofs.Common.{◌≡◌, ℕ, ◌+◌, ◌*◌, ◌<◌, ◌≤◌, Bool, true, false, List, [], ◌∷◌, length, Option, Some, None, Ok, cond, refl, sym, ap, subst, arith}
use Rattle.std.specs.Prelude.{option_map, option_and_then, codes, ◌==◌}
use Rattle.std.specs.List.{slice_split, onto_first}
use Rattle.std.specs.Str.{bytes_eq}
use Rattle.std.proofs.lemmas.List.Splits.{length-slice_split}
use Rattle.am_schedule.specs.declared.error.FaultKind.TheVariants.{Number}
use Rattle.am_schedule.specs.Readings.{or_fault}
use Rattle.am_schedule.specs.Numbers.{count_in}
use Rattle.am_schedule.specs.Lists.{values, hashes_in}

-- each text has a byte
abbrev AreFilled : List (List ℕ) → Type 0
AreFilled [] = Unit {0}
AreFilled (text ∷ texts) = (0 < length text) × AreFilled texts

-- so many parts behind the first one need twice as many bytes
abbrev Needs : List (List ℕ) → ℕ → Type 0
Needs [] n = Unit {0}
Needs (part ∷ parts) n = AreFilled parts → length part + 2 * length parts ≤ n

more_parts : (b : Bool) (x n : ℕ) (parts : List (List ℕ)) → 0 < length parts → Needs parts n → Needs (cond b ([] ∷ parts) (onto_first x parts)) (n + 1)
more_parts true x n (part ∷ parts) some needs = λ filled. (let more = needs filled.1 in let first = filled.0 in omega (arith, more, first))
more_parts false x n (part ∷ parts) some needs = λ filled. (let more = needs filled in omega (arith, more))
more_parts b x n [] some needs = absurd (omega (arith, some))

split_needs : (bytes : List ℕ) → Needs (slice_split (λ b. b == 44) bytes) (length bytes)
split_needs [] = λ filled. omega arith
split_needs (byte ∷ bytes) =
    let some = length-slice_split (λ b. b == 44) bytes in
    let more = more_parts (byte == 44) byte (length bytes) (slice_split (λ b. b == 44) bytes) (omega (arith, some)) (split_needs bytes) in
    let len : length bytes + 1 ≡ length (byte ∷ bytes) = omega arith in
    subst (λ (n : ℕ). Needs (slice_split (λ b. b == 44) (byte ∷ bytes)) n) len more

nothing_counts : count_in [] ≡ None
unfolding count_in
nothing_counts = refl

-- what is a number has a byte
counted_filled : (text : List ℕ) (n : ℕ) → count_in text ≡ Some n → 0 < length text
counted_filled [] n is = absurd (let none = nothing_counts in cc)
counted_filled (byte ∷ bytes) n is = omega arith

-- the numbers of texts, each of which has one
pub record HaveNumbers (texts : List (List ℕ)) (numbers : List ℕ) : Type 0 where
  pub filled : AreFilled texts
  pub count : length numbers ≡ length texts

one_more : (text : List ℕ) (texts : List (List ℕ)) (n : Option ℕ) (others : Option (List ℕ)) (numbers : List ℕ)
    → count_in text ≡ n → ((ms : List ℕ) → others ≡ Some ms → HaveNumbers texts ms)
    → option_and_then (λ y. option_map (λ ys. y ∷ ys) others) n ≡ Some numbers → HaveNumbers (text ∷ texts) numbers
one_more text texts None others numbers is rest all = absurd cc
one_more text texts (Some n) None numbers is rest all = absurd cc
one_more text texts (Some n) (Some ms) numbers is rest all =
    let same : n ∷ ms ≡ numbers = cc in
    let more = rest ms refl in
    let count : length (n ∷ ms) ≡ length numbers = ap (λ (l : List ℕ). length l) same in
    let behind = more.count in
    record { filled = (counted_filled text n is, more.filled); count = omega (arith, count, behind) }

have_numbers : (texts : List (List ℕ)) (numbers : List ℕ) → values count_in texts ≡ Some numbers → HaveNumbers texts numbers
have_numbers [] numbers all = let same : [] ≡ numbers = cc in record { filled = tt; count = ap (λ (l : List ℕ). length l) (sym same) }
have_numbers (text ∷ texts) numbers all =
    one_more text texts (count_in text) (values count_in texts) numbers refl (λ ms is. have_numbers texts ms is) all

few_in : (parts : List (List ℕ)) (n : ℕ) → AreFilled parts → Needs parts n → 2 * length parts ≤ n + 1
few_in [] n filled needs = omega arith
few_in (part ∷ parts) n filled needs = let all = needs filled.1 in let first = filled.0 in omega (arith, all, first)

few_numbers : (word numbers : List ℕ) → length word ≤ 1024 → values count_in (slice_split (λ b. b == 44) word) ≡ Some numbers → length numbers ≤ 512
few_numbers word numbers short all =
    let have = have_numbers (slice_split (λ b. b == 44) word) numbers all in
    let few = few_in (slice_split (λ b. b == 44) word) (length word) have.filled (split_needs word) in
    let count = have.count in
    omega (arith, few, count, short)

few_by : (b : Bool) (word numbers : List ℕ) → length word ≤ 1024 → (cond b (Some []) (values count_in (slice_split (λ b. b == 44) word))) ≡ Some numbers → length numbers ≤ 512
few_by true word numbers short all = let same : [] ≡ numbers = cc in let count = ap (λ (l : List ℕ). length l) same in omega (arith, count)
few_by false word numbers short all = few_numbers word numbers short all

few_of : (word numbers : List ℕ) → length word ≤ 1024 → hashes_in word ≡ Some numbers → length numbers ≤ 512
unfolding hashes_in
few_of word numbers short all = few_by (bytes_eq word (codes "-")) word numbers short all

found : (read : Option (List ℕ)) (numbers : List ℕ) → or_fault Number read ≡ Ok numbers → read ≡ Some numbers
found None numbers is = absurd cc
found (Some ns) numbers is = cc

-- a list in a word has at most 512 hashes
pub few_hashes : (word numbers : List ℕ) → length word ≤ 1024 → or_fault Number (hashes_in word) ≡ Ok numbers → length numbers ≤ 512
few_hashes word numbers short all = few_of word numbers short (found (hashes_in word) numbers all)
