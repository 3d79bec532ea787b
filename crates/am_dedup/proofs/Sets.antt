-- The set of a list's hashes, against the list.
use Rattle.std.proofs.Common.{rules, ◌≡◌, ℕ, suc, ◌-◌, ◌<◌, take, drop, Bool, true, false, refl, sym, ◌∙◌, ap, List, [], ◌∷◌, ◌++◌, length, get_or, Contains, ◌↔◌, nat_eq, ◌&&◌, ◌||◌}
use Rattle.std.specs.List.{list_any, list_all}
use Rattle.std.specs.Ordering.{nat_cmp}
use Rattle.std.specs.Cmp.{both_ways}
use Rattle.std.specs.FinSet.{contains, is_subset, is_subset-contains, contains-is_subset, contains-from_list_nat, same_set, nat_cmp-IsAntisymmetric, len-empty, empty_of_len, contains-empty}
use Rattle.std.proofs.lemmas.Cmp.{nat_cmp_total}
use Rattle.std.proofs.lemmas.List.Elements.{All-contains}
use Rattle.std.proofs.lemmas.List.{take-append-drop, length-drop}
use Rattle.std.proofs.Math.Seq.{take-length}
use Rattle.std.proofs.lemmas.List.Folds.{list_any-append, list_all-append, list_any-from_Any, list_all_at}
use Rattle.std.specs.List.Sorted.{IsPermutation}
use Rattle.std.proofs.lemmas.List.Sorted.{Contains-permutation, IsPermutation-sym}
use Rattle.std.proofs.lemmas.List.Sums.{AllPass-from_list_all}
use Rattle.std.proofs.lemmas.Map.Views.{Contains-from_any}
use Rattle.am_dedup.specs.Decisions.{set_of, has_none}

-- a list has the hash
abbrev pub is_among : List ℕ → ℕ → Bool
is_among hashes hash = list_any (λ y. nat_eq y hash) hashes

pub is_same : (y q : ℕ) → nat_eq y q ≡ true → y ≡ q
is_same y q e = search rules

pub is_itself : (q : ℕ) → nat_eq q q ≡ true
is_itself q = search rules

pub member_of : (hashes : List ℕ) (hash : ℕ) → is_among hashes hash ≡ true → Contains hashes hash
member_of hashes hash = Contains-from_any {eq = λ q y. nat_eq y q} (λ q y e. sym (is_same y q e)) hash hashes

pub or_true : (b : Bool) → (b || true) ≡ true
or_true true = refl
or_true false = refl

pub or_false : (b : Bool) → (b || false) ≡ b
or_false true = refl
or_false false = refl

-- what holds of each hash that is among them holds of all
pub all_of : (p : ℕ → Bool) (hashes : List ℕ) → ((hash : ℕ) → is_among hashes hash ≡ true → p hash ≡ true) → list_all p hashes ≡ true
all_of p [] each = refl
all_of p (x ∷ hashes) each =
    ap (λ b. b && list_all p hashes) (each x (ap (λ b. b || is_among hashes x) (is_itself x)))
    ∙ all_of p hashes (λ y one. each y (ap (λ b. nat_eq x y || b) one ∙ or_true _))

-- a set is within another exactly where each hash of its list is among the other's
pub subset_is : (hashes others : List ℕ) → is_subset (set_of hashes) (set_of others) ≡ list_all (is_among others) hashes
subset_is hashes others =
    both_ways _ _
    (λ within. all_of (is_among others) hashes (λ hash one. sym (contains-from_list_nat others hash) ∙ is_subset-contains nat_cmp_total (set_of hashes) (set_of others) within hash (contains-from_list_nat hashes hash ∙ one)))
    (λ all. contains-is_subset nat_cmp_total (set_of hashes) (set_of others) (λ hash one. contains-from_list_nat others hash ∙ All-contains (λ x. is_among others x ≡ true) hashes hash (AllPass-from_list_all (is_among others) hashes all) (member_of hashes hash (sym (contains-from_list_nat hashes hash) ∙ one))))

more_than_none : (n : ℕ) → nat_eq (suc n) 0 ≡ false
more_than_none n = search rules

-- a list's set has no hash exactly where the list has none
pub none_is : (hashes : List ℕ) → has_none (set_of hashes) ≡ nat_eq (length hashes) 0
none_is [] = ap (λ n. nat_eq n 0) (len-empty nat_cmp)
none_is (x ∷ hashes) =
    elim (has_none (set_of (x ∷ hashes))) as (λ b. has_none (set_of (x ∷ hashes)) ≡ b → b ≡ nat_eq (length (x ∷ hashes)) 0) [
      | false ↦ λ e. sym (more_than_none (length hashes))
      | true ↦ λ e.
          sym (contains-from_list_nat (x ∷ hashes) x ∙ ap (λ b. b || is_among hashes x) (is_itself x))
          ∙ ap (λ s. contains s x) (empty_of_len (set_of (x ∷ hashes)) (is_same _ 0 e))
          ∙ contains-empty nat_cmp x
          ∙ sym (more_than_none (length hashes))
    ] refl

-- one hash more behind a list
pub among_one_more : (hashes : List ℕ) (last hash : ℕ) → is_among (hashes ++ last ∷ []) hash ≡ (is_among hashes hash || nat_eq last hash)
among_one_more hashes last hash = list_any-append (λ y. nat_eq y hash) hashes (last ∷ []) ∙ ap (λ b. is_among hashes hash || b) (or_false (nat_eq last hash))

-- a slice to the end
pub to_end : (hashes : List ℕ) (start : ℕ) → take (length hashes - start) (drop start hashes) ≡ drop start hashes
to_end hashes start = ap (λ n. take n (drop start hashes)) (sym (length-drop start hashes)) ∙ take-length (drop start hashes)

-- a hash that is not among the others is in no set within theirs
pub not_within : (hashes others : List ℕ) (i : ℕ) → i < length hashes → is_among others (get_or hashes i 0) ≡ false → is_subset (set_of hashes) (set_of others) ≡ false
not_within hashes others i within missing = subset_is hashes others ∙ list_all_at (is_among others) hashes i 0 within missing

list_any_of : (p : ℕ → Bool) (hashes : List ℕ) (hash : ℕ) → Contains hashes hash → p hash ≡ true → list_any p hashes ≡ true
list_any_of p hashes hash member holds = list_any-from_Any p hashes (member.0, hash, member.1, member.2, holds)

-- a hash is in a list's set exactly where it is a member of the list
pub member_is : (hashes : List ℕ) (hash : ℕ) → (contains (set_of hashes) hash ≡ true) ↔ Contains hashes hash
member_is hashes hash = (
  λ is. member_of hashes hash (sym (contains-from_list_nat hashes hash) ∙ is),
  λ member. contains-from_list_nat hashes hash ∙ list_any_of (λ y. nat_eq y hash) hashes hash member (is_itself hash),
)

pub alike : (hashes others : List ℕ) → ((hash : ℕ) → Contains hashes hash ↔ Contains others hash) → set_of hashes ≡ set_of others
alike hashes others same =
    same_set nat_cmp_total nat_cmp-IsAntisymmetric (set_of hashes) (set_of others)
    (λ hash. both_ways _ _
    (λ is. (member_is others hash).1 ((same hash).0 ((member_is hashes hash).0 is)))
    (λ is. (member_is hashes hash).1 ((same hash).1 ((member_is others hash).0 is))))

-- all that were looked for were found
pub all_within : (hashes others : List ℕ) (count : ℕ) → count ≡ length hashes → list_all (is_among others) (take count hashes) ≡ true → is_subset (set_of hashes) (set_of others) ≡ true
all_within hashes others count all found = subset_is hashes others ∙ ap (list_all (is_among others)) (sym (ap (λ n. take n hashes) all ∙ take-length hashes)) ∙ found

-- a set is within another where each part of its list is
pub parts_within : (hashes others : List ℕ) (count : ℕ) → is_subset (set_of hashes) (set_of others) ≡ (is_subset (set_of (take count hashes)) (set_of others) && is_subset (set_of (drop count hashes)) (set_of others))
parts_within hashes others count =
    subset_is hashes others
    ∙ ap (list_all (is_among others)) (sym (take-append-drop count hashes))
    ∙ list_all-append (is_among others) (take count hashes) (drop count hashes)
    ∙ sym (ap (λ b. b && is_subset (set_of (drop count hashes)) (set_of others)) (subset_is (take count hashes) others) ∙ ap (λ b. list_all (is_among others) (take count hashes) && b) (subset_is (drop count hashes) others))

-- an order of the hashes makes the same set
pub any_order : (hashes others : List ℕ) → IsPermutation hashes others → set_of hashes ≡ set_of others
any_order hashes others moved = alike hashes others (λ hash. (Contains-permutation hashes others hash moved, Contains-permutation others hashes hash (IsPermutation-sym hashes others moved)))

-- where a list has no hash, its set is within any
pub none_within : (hashes others : List ℕ) → length hashes ≡ 0 → is_subset (set_of hashes) (set_of others) ≡ true
none_within hashes others none = all_within hashes others 0 (sym none) refl

-- what is within another set is left to its last part, where the first is
pub last_part : (hashes others : List ℕ) (count : ℕ) → list_all (is_among others) (take count hashes) ≡ true → is_subset (set_of (take (length hashes - count) (drop count hashes))) (set_of others) ≡ is_subset (set_of hashes) (set_of others)
last_part hashes others count first =
    ap (λ l. is_subset (set_of l) (set_of others)) (to_end hashes count)
    ∙ sym (parts_within hashes others count ∙ ap (λ b. b && is_subset (set_of (drop count hashes)) (set_of others)) (subset_is (take count hashes) others ∙ first))
