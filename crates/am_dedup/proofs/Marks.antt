-- Sorted hashes, their first places, and the marks at these.
use Rattle.std.proofs.Common.{arith, ◌≡◌, ℕ, ◌+◌, ◌-◌, ◌<◌, ◌≤◌, ◌%◌, Bool, true, false, refl, sym, ◌∙◌, ap, cond, List, [], ◌∷◌, ◌++◌, length, get_or, Option, Some, None, nat_eq, nat_lt, ◌||◌, set}
use Rattle.std.specs.List.{position, position_or_len, list_all}
use Rattle.std.specs.List.Sorted.{IsNonDecreasing}
use Rattle.std.proofs.lemmas.Bool.Decides.{nat_tests}
use Rattle.std.proofs.lemmas.List.{get_or-set_same, get_or-set_other, get_or_default}
use Rattle.std.proofs.lemmas.List.Elements.{All-from_get_or}
use Rattle.std.proofs.lemmas.List.Quantifiers.{position-Some}
use Rattle.std.proofs.lemmas.List.Sums.{position_or_len_is, fails_before_first, list_all-from_AllPass}
use Rattle.am_dedup.proofs.Sets.{is_among, is_same, is_itself, or_true, or_false, among_one_more}

-- the first place of a hash
abbrev pub first_place : List ℕ → ℕ → Option ℕ
first_place hashes hash = position (λ y. nat_eq y hash) hashes

is_below : (a b : ℕ) → a < b → nat_lt a b ≡ true
is_below a b less = grind (arith, nat_tests)

pub less_is : (a b : ℕ) → nat_lt a b ≡ true → a < b
less_is a b less = grind (arith, nat_tests)

less_differs : (y q : ℕ) → nat_lt y q ≡ true → nat_eq y q ≡ false
less_differs y q less = grind (arith, nat_tests)

higher_differs : (a b q : ℕ) → a ≤ b → nat_lt a q ≡ false → nat_eq a q ≡ false → nat_eq b q ≡ false
higher_differs a b q up least other = grind (arith, nat_tests)

-- a hash stands first where all before it are less
pub first_is : (sorted : List ℕ) (hash place : ℕ) → place < length sorted → get_or sorted place 0 ≡ hash → ((k d : ℕ) → 0 ≤ k → k < place → nat_lt (get_or sorted k d) hash ≡ true) → Some place ≡ first_place sorted hash
first_is sorted hash place within is before =
    let at : position_or_len (λ y. nat_eq y hash) sorted ≡ place =
    position_or_len_is (λ y. nat_eq y hash) sorted place 0 (omega arith) (λ k below. less_differs _ _ (before k 0 (omega arith) below)) (λ w. ap (λ n. nat_eq n hash) is ∙ is_itself hash) in
    sym (ap (λ n. cond (nat_lt n (length sorted)) (Some n) None) at ∙ ap (λ b. cond b (Some place) None) (is_below place (length sorted) within))

-- and nowhere if the first that is not less is another
pub nowhere : (sorted : List ℕ) (hash place : ℕ) → IsNonDecreasing sorted → ((k d : ℕ) → 0 ≤ k → k < place → nat_lt (get_or sorted k d) hash ≡ true) → ((k d : ℕ) → place ≤ k → k < length sorted → nat_lt (get_or sorted k d) hash ≡ false) → (place < length sorted → nat_eq (get_or sorted place 0) hash ≡ false) → None ≡ first_place sorted hash
nowhere sorted hash place up before behind other =
    let differs : (k : ℕ) → k < length sorted → nat_eq (get_or sorted k 0) hash ≡ false =
    λ k within. elim (nat_lt k place) as (λ b. nat_lt k place ≡ b → nat_eq (get_or sorted k 0) hash ≡ false) [
      | true ↦ λ e. less_differs _ _ (before k 0 (omega arith) (grind (arith, nat_tests)))
      | false ↦ λ e.
          let least : place ≤ k = grind (arith, nat_tests) in
          higher_differs (get_or sorted place 0) _ _ (up place k 0 least within) (behind place 0 (omega arith) (omega arith)) (other (omega arith))
    ] refl in
    let at : position_or_len (λ y. nat_eq y hash) sorted ≡ length sorted =
    position_or_len_is (λ y. nat_eq y hash) sorted (length sorted) 0 (omega arith) differs (λ w. absurd (omega arith)) in
    let none : nat_lt (length sorted) (length sorted) ≡ false = grind (arith, nat_tests) in
    sym (ap (λ n. cond (nat_lt n (length sorted)) (Some n) None) at ∙ ap (λ b. cond b (Some (length sorted)) None) none)

-- each of the hashes has a place
pub has_place : (hashes : List ℕ) (i : ℕ) → i < length hashes → first_place hashes (get_or hashes i 0) ≡ None → ⊥
has_place hashes i within none =
    elim (nat_lt (position_or_len (λ y. nat_eq y (get_or hashes i 0)) hashes) (length hashes)) as (λ b. nat_lt (position_or_len (λ y. nat_eq y (get_or hashes i 0)) hashes) (length hashes) ≡ b → ⊥) [
      | true ↦ λ e. absurd (cc (sym none ∙ ap (λ b. cond b (Some (position_or_len (λ y. nat_eq y (get_or hashes i 0)) hashes)) None) e))
      | false ↦ λ e.
          let past : i < position_or_len (λ y. nat_eq y (get_or hashes i 0)) hashes = grind (arith, nat_tests) in
          absurd (cc (sym (is_itself (get_or hashes i 0)) ∙ fails_before_first (λ y. nat_eq y (get_or hashes i 0)) hashes i 0 past))
    ] refl

pub is_within : (hashes : List ℕ) (hash place : ℕ) → first_place hashes hash ≡ Some place → place < length hashes
is_within hashes hash place first = (position-Some (λ y. nat_eq y hash) hashes place 0 first).0

-- two hashes with one first place are the same
same_place : (hashes : List ℕ) (hash other place : ℕ) → first_place hashes hash ≡ Some place → first_place hashes other ≡ Some place → hash ≡ other
same_place hashes hash other place one two =
    sym (is_same _ _ (position-Some (λ y. nat_eq y hash) hashes place 0 one).1) ∙ is_same _ _ (position-Some (λ y. nat_eq y other) hashes place 0 two).1

-- what the marks tell of the first hashes of a list: those that have a first place, and are among them, are marked there
abbrev pub Marks : List ℕ → List Bool → List ℕ → Type 0
Marks sorted marks listed = (hash place : ℕ) → first_place sorted hash ≡ Some place → get_or marks place false ≡ is_among listed hash

-- a mark for one more hash that is listed
pub marks_more : (sorted before : List ℕ) (marks : List Bool) (last at : ℕ) → at < length marks → first_place sorted last ≡ Some at → Marks sorted marks before → Marks sorted (set marks at true) (before ++ last ∷ [])
marks_more sorted before marks last at fits is marked hash place first =
    elim (nat_eq last hash) as (λ b. nat_eq last hash ≡ b → get_or (set marks at true) place false ≡ is_among (before ++ last ∷ []) hash) [
      | true ↦ λ e.
          let here : at ≡ place = cc (sym is ∙ ap (first_place sorted) (is_same _ _ e) ∙ first) in
          ap (λ n. get_or (set marks at true) n false) (sym here)
          ∙ get_or-set_same marks at true false fits
          ∙ sym (among_one_more before last hash ∙ ap (λ b. is_among before hash || b) e ∙ or_true _)
      | false ↦ λ e.
          get_or-set_other marks at place true false (λ one. absurd (cc (sym e ∙ ap (λ n. nat_eq n hash) (same_place sorted _ hash at is (first ∙ ap Some one)) ∙ is_itself hash)))
          ∙ marked hash place first
          ∙ sym (among_one_more before last hash ∙ ap (λ b. is_among before hash || b) e ∙ or_false _)
    ] refl

-- a table that has each hash's remainder
abbrev pub HasRemainders : List ℕ → List ℕ → Type 0
HasRemainders hashes met = (i : ℕ) → i < length hashes → nat_eq (get_or met (get_or hashes i 0 % 32768) 0) 0 ≡ false

-- a hash of another remainder is nowhere
pub unmet : (hashes met : List ℕ) (hash : ℕ) → HasRemainders hashes met → get_or met (hash % 32768) 0 ≡ 0 → None ≡ first_place hashes hash
unmet hashes met hash has none =
    elim (first_place hashes hash) as (λ o. first_place hashes hash ≡ o → None ≡ o) [
      | None ↦ λ e. refl
      | Some place ↦ λ e.
          let is : get_or hashes place 0 ≡ hash = is_same _ _ (position-Some (λ y. nat_eq y hash) hashes place 0 e).1 in
          let empty : nat_eq (get_or met (hash % 32768) 0) 0 ≡ true = ap (λ n. nat_eq n 0) none ∙ is_itself 0 in
          absurd (cc (sym empty ∙ ap (λ h. nat_eq (get_or met (h % 32768) 0) 0) (sym is) ∙ has place (is_within hashes hash place e)))
    ] refl

more_than_none : (n : ℕ) → nat_eq (n + 1) 0 ≡ false
more_than_none n = grind (arith, nat_tests)

-- the table of one more hash
pub met_more : (hashes met : List ℕ) (n : ℕ) → length met ≡ 32768 → ((i : ℕ) → i < n → nat_eq (get_or met (get_or hashes i 0 % 32768) 0) 0 ≡ false) → (i : ℕ) → i < n + 1 → nat_eq (get_or (set met (get_or hashes n 0 % 32768) (n + 1)) (get_or hashes i 0 % 32768) 0) 0 ≡ false
met_more hashes met n long has i below =
    let at : ℕ → ℕ = λ (k : ℕ). get_or hashes k 0 % 32768 in
    let fits : at n < length met = omega (arith, long) in
    elim (nat_eq (at i) (at n)) as (λ b. nat_eq (at i) (at n) ≡ b → nat_eq (get_or (set met (at n) (n + 1)) (at i) 0) 0 ≡ false) [
      | true ↦ λ e.
          ap (λ k. nat_eq (get_or (set met (at n) (n + 1)) k 0) 0) (is_same (at i) (at n) e)
          ∙ ap (λ v. nat_eq v 0) (get_or-set_same met (at n) (n + 1) 0 fits)
          ∙ more_than_none n
      | false ↦ λ e.
          let other : at i ≡ at n → ⊥ = λ one. absurd (cc (sym e ∙ ap (λ k. nat_eq k (at n)) one ∙ is_itself (at n))) in
          let before : i < n = elim (nat_lt i n) as (λ b. nat_lt i n ≡ b → i < n) [
            | true ↦ λ f. grind (arith, nat_tests)
            | false ↦ λ f.
                let last : i ≡ n = grind (arith, nat_tests) in
                absurd (other (ap at last))
          ] refl in
          ap (λ v. nat_eq v 0) (get_or-set_other met (at n) (at i) (n + 1) 0 other) ∙ has i before
    ] refl

-- a hash stands first where the one before it is less
pub first_at : (sorted : List ℕ) (place : ℕ) → IsNonDecreasing sorted → place < length sorted → (0 < place → get_or sorted (place - 1) 0 < get_or sorted place 0) → first_place sorted (get_or sorted place 0) ≡ Some place
first_at sorted place up within less =
    sym (first_is sorted (get_or sorted place 0) place within refl (λ k d low below.
    let rises = up k (place - 1) d (omega arith) (omega arith) in
    let next = less (omega arith) in
    let one : get_or sorted (place - 1) d ≡ get_or sorted (place - 1) 0 = get_or_default sorted (place - 1) d 0 (omega arith) in
    is_below _ _ (omega (arith, rises, next, one))))

-- each of them is listed
pub all_listed : (sorted listed : List ℕ) → ((i : ℕ) → i < length sorted → is_among listed (get_or sorted i 0) ≡ true) → list_all (is_among listed) sorted ≡ true
all_listed sorted listed each = list_all-from_AllPass (is_among listed) sorted (All-from_get_or (λ x. is_among listed x ≡ true) sorted 0 each)
