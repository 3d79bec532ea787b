-- One side more in a loop.
use Rattle.std.proofs.Common.{◌≡◌, ℕ, ◌+◌, ◌<◌, Bool, true, false, ◌||◌, List, [], ◌∷◌, ◌++◌, Option, Some, None, length, get_or, set, take, drop, map, refl, sym, ap, ◌∙◌}
use Rattle.std.specs.List.{list_any}
use Rattle.std.specs.Option.{MatchOption, option_copied}
use denote.Ref.{Bor}
use Rattle.std.proofs.lemmas.List.{map_more}
use Rattle.std.proofs.lemmas.List.Edits.{map_over_more}
use Rattle.std.proofs.lemmas.List.Sums.{fold_more}
use Rattle.std.proofs.lemmas.List.Folds.{list_any_more, list_any_at}
use Rattle.std.specs.declared.cmp.Ordering.{Ordering}
use Rattle.am_version_order.specs.Versions.{Version}
use Rattle.am_report.specs.Sources.{Source, Holding, MergeCursor, come_to, holding_of, side_of, front_of, begins_at, first_at, behind}
use Rattle.am_report.specs.Groups.{within, greatest_within}
use Rattle.am_report.specs.Walks.{head_of, lesser_of, least_of}
use Rattle.am_report.proofs.Ranking.{greatest_more as one_more}
use Rattle.am_merge.specs.Maps.{greater_of}

pub least_more : {K X : Type 0} (seen : X → Version K) (cmp : K → K → Ordering) (sides : List (MergeCursor X)) (i : ℕ) (d : MergeCursor X) (best first : Option X) → i < length sides
    → best ≡ least_of seen cmp (take i sides) → first ≡ head_of (get_or sides i d).left → lesser_of seen cmp best first ≡ least_of seen cmp (take (i + 1) sides)
least_more seen cmp sides i d best first less so_far here = rw (so_far, here) (sym (fold_more (λ least cursor. lesser_of seen cmp least (head_of cursor.left)) None sides i d less))

pub greatest_more : {K X : Type 0} (seen : X → Version K) (bound : Option X) (sides : List (MergeCursor X)) (i : ℕ) (d : MergeCursor X) (best here : Option X) → i < length sides
    → best ≡ greatest_within seen bound (map holding_of (take i sides)) → here ≡ within seen bound (get_or sides i d).here → greater_of seen best here ≡ greatest_within seen bound (map holding_of (take (i + 1) sides))
greatest_more seen bound sides i d best here less so_far is = rw (so_far, is) (one_more seen bound sides i d less)

pub unbounded : {K X : Type 0} (seen : X → Version K) (o : Option X) → o ≡ within seen None o
unbounded seen None = refl
unbounded seen (Some v) = refl

-- a side that has come to the key in place
pub come_more : {K X : Type 0} (seen : X → Version K) (cmp : K → K → Ordering) (key : K) (xs ys : List (MergeCursor X)) (i : ℕ) (x : MergeCursor X) → i < length xs
    → ys ≡ map (come_to seen cmp key) (take i xs) ++ drop i xs → x ≡ get_or ys i x → set ys i (come_to seen cmp key x) ≡ map (come_to seen cmp key) (take (i + 1) xs) ++ drop (i + 1) xs
come_more seen cmp key xs ys i x less is here = map_over_more (come_to seen cmp key) xs ys i x less is here

pub sides_more : {X : Type 0} (sources : List (Source X)) (i : ℕ) (d : Source X) (sides : List (MergeCursor X)) → i < length sources → sides ≡ map side_of (take i sources)
    → sides ++ side_of (get_or sources i d) ∷ [] ≡ map side_of (take (i + 1) sources)
sides_more sources i d sides less is = rw is (sym (map_more side_of sources i d less))

any_of_holdings : {X : Type 0} (test : Holding X → Bool) (sides : List (MergeCursor X)) → list_any test (map holding_of sides) ≡ list_any (λ cursor. test (holding_of cursor)) sides
any_of_holdings test [] = refl
any_of_holdings test (cursor ∷ sides) = ap (λ b. test (holding_of cursor) || b) (any_of_holdings test sides)

-- none so far
pub none_more : {X : Type 0} (test : Holding X → Bool) (sides : List (MergeCursor X)) (i : ℕ) (d : MergeCursor X) → i < length sides → list_any test (map holding_of (take i sides)) ≡ false
    → test (holding_of (get_or sides i d)) ≡ false → list_any test (map holding_of (take (i + 1) sides)) ≡ false
none_more test sides i d less none here =
    any_of_holdings test (take (i + 1) sides)
    ∙ list_any_more (λ cursor. test (holding_of cursor)) sides i d less
    ∙ rw (sym (any_of_holdings test (take i sides)) ∙ none, here) refl

-- and one
pub one_here : {X : Type 0} (test : Holding X → Bool) (sides : List (MergeCursor X)) (i : ℕ) (d : MergeCursor X) → i < length sides → test (holding_of (get_or sides i d)) ≡ true → true ≡ list_any test (map holding_of sides)
one_here test sides i d less here = sym (any_of_holdings test sides ∙ list_any_at (λ cursor. test (holding_of cursor)) sides i d less here)

-- what an iterator gave, with what it left, is what it had
pub front_is : {X : Type 0} (r : Option (Bor X)) (old new : List X) → MatchOption r ((old ≡ []) × (new ≡ [])) (λ x. old ≡ x.now ∷ new) → front_of (option_copied r) new ≡ old
front_is None old new steps = sym steps.0
front_is (Some x) old new steps = sym steps

pub head_is : {X : Type 0} (o : Option X) (rest : List X) → o ≡ head_of (front_of o rest)
head_is None rest = refl
head_is (Some v) rest = refl

module _ {K X : Type 0} (seen : X → Version K) (cmp : K → K → Ordering) where
  -- a side at the key, and one that isn't
  pub at_key : (key : K) (o : Option X) (rest : List X) → begins_at seen cmp key (front_of o rest) ≡ true → (first_at seen cmp key (front_of o rest) ≡ o) × (behind seen cmp key (front_of o rest) ≡ rest)
  at_key key None rest begins = absurd cc
  at_key key (Some v) rest begins = (rw begins refl, rw begins refl)

  pub not_at_key : (key : K) (left : List X) → begins_at seen cmp key left ≡ false → (first_at seen cmp key left ≡ None) × (behind seen cmp key left ≡ left)
  not_at_key key [] other = (refl, refl)
  not_at_key key (v ∷ rest) other = (rw other refl, rw other refl)
