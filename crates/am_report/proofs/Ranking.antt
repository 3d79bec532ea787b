-- The versions at a key from the greatest down, each found as the greatest below the one before it.
use Rattle.std.proofs.Common.{◌≡◌, ℕ, ◌+◌, ◌<◌, ◌≤◌, Bool, true, false, cond, List, [], ◌∷◌, ◌++◌, Option, Some, None, length, get_or, take, map, refl, sym, ap, ◌∙◌, subst, ◌⊎◌, inl, inr, arith}
use Rattle.std.specs.Prelude.{All, AllPairs, Contains, fold}
use Rattle.std.specs.List.{AllByRecursion}
use Rattle.std.proofs.lemmas.Bool.{cases_Bool}
use Rattle.std.proofs.lemmas.List.{take_more, map-append}
use Rattle.std.proofs.lemmas.List.Sums.{fold_push}
use Rattle.std.proofs.lemmas.List.Elements.{All-from_recursion, Contains-append_left, Contains-append_right, Contains-push}
use Rattle.std.specs.declared.cmp.Ordering.{Ordering}
use Rattle.std.specs.declared.cmp.Ordering.TheVariants.{Less, Equal, Greater}
use Rattle.std.specs.Ordering.{is_lt, is_eq, ordering_reverse}
use Rattle.am_version_order.specs.Versions.{Version, rank_cmp, is_below}
use Rattle.am_version_order.proofs.Ranks.{rank_total, below_itself, below_past, below_trans}
use Rattle.am_merge.specs.Maps.{greater_of}
use Rattle.am_report.specs.Sources.{Holding, MergeCursor, holding_of}
use Rattle.am_report.specs.Differences.{is_same}
use Rattle.am_report.specs.Groups.{within, greatest_within}

module _ {K X : Type 0} (seen : X → Version K) where
  same_by : (v w : X) (r : Ordering) → rank_cmp (seen v) (seen w) ≡ r → is_below (seen v) (seen w) ≡ false → is_below (seen w) (seen v) ≡ false → is_eq r ≡ true
  unfolding is_below
  same_by v w Less e up down = let less = ap is_lt e in absurd cc
  same_by v w Equal e up down = refl
  same_by v w Greater e up down =
      let less : is_lt (rank_cmp (seen w) (seen v)) ≡ true = ap is_lt (rank_total.antisymm (seen w) (seen v) ∙ ap ordering_reverse e) in
      absurd cc

  same : (v w : X) → is_below (seen v) (seen w) ≡ false → is_below (seen w) (seen v) ≡ false → is_same seen (Some v) (Some w) ≡ true
  same v w up down = same_by v w (rank_cmp (seen v) (seen w)) refl up down

  -- ---- the greatest within a bound

  abbrev pub NotAbove : Option X → X → Type 0
  NotAbove None v = Unit {0}
  NotAbove (Some w) v = is_below (seen v) (seen w) ≡ false

  both_below : (v b w : X) (t : Bool) → is_below (seen b) (seen w) ≡ t → NotAbove (cond t (Some w) (Some b)) v → (is_below (seen v) (seen b) ≡ false) × (is_below (seen v) (seen w) ≡ false)
  both_below v b w true e not_above = (
    elim (cases_Bool (is_below (seen v) (seen b))) [
      | inl below ↦ let through = below_trans (seen v) (seen b) (seen w) below e in absurd cc
      | inr other ↦ other
    ],
    not_above,
  )
  both_below v b w false e not_above = (
    not_above,
    elim (cases_Bool (is_below (seen v) (seen w))) [
      | inl below ↦ let through = below_past (seen v) (seen b) (seen w) not_above below in absurd cc
      | inr other ↦ other
    ],
  )

  parts : (v : X) (best o : Option X) → NotAbove (greater_of seen best o) v → NotAbove best v × NotAbove o v
  parts v None o not_above = (tt, not_above)
  parts v (Some b) None not_above = (not_above, tt)
  parts v (Some b) (Some w) not_above = both_below v b w (is_below (seen b) (seen w)) refl not_above

  one_of : (t : Bool) (b w v : X) → cond t (Some w) (Some b) ≡ Some v → (Some b ≡ Some v) ⊎ (Some w ≡ Some v)
  one_of true b w v e = inr e
  one_of false b w v e = inl e

  from_either : (v : X) (best o : Option X) → greater_of seen best o ≡ Some v → (best ≡ Some v) ⊎ (o ≡ Some v)
  from_either v None o e = inr e
  from_either v (Some b) None e = inl e
  from_either v (Some b) (Some w) e = one_of (is_below (seen b) (seen w)) b w v e

  none_of : (t : Bool) (b w : X) → cond t (Some w) (Some b) ≡ None → ⊥
  none_of true b w e = cc
  none_of false b w e = cc

  from_neither : (best o : Option X) → greater_of seen best o ≡ None → (best ≡ None) × (o ≡ None)
  from_neither None o e = (refl, e)
  from_neither (Some b) None e = absurd cc
  from_neither (Some b) (Some w) e = absurd (none_of (is_below (seen b) (seen w)) b w e)

  module _ (bound : Option X) where
    abbrev pub IsHere : List (Holding X) → X → Type 0
    IsHere holdings v = (holding : Holding X) × Contains holdings holding × (within seen bound holding.here ≡ Some v)

    none_within : (best : Option X) (holdings : List (Holding X)) → fold (λ most holding. greater_of seen most (within seen bound holding.here)) best holdings ≡ None
        → (best ≡ None) × AllByRecursion (λ holding. within seen bound holding.here ≡ None) holdings
    none_within best [] e = (e, tt)
    none_within best (holding ∷ holdings) e =
        let rest = none_within (greater_of seen best (within seen bound holding.here)) holdings e in
        let here = from_neither best (within seen bound holding.here) rest.0 in
        (here.0, (here.1, rest.1))

    some_within : (best : Option X) (holdings : List (Holding X)) (v : X) → fold (λ most holding. greater_of seen most (within seen bound holding.here)) best holdings ≡ Some v
        → NotAbove best v × ((best ≡ Some v) ⊎ IsHere holdings v) × AllByRecursion (λ holding. NotAbove (within seen bound holding.here) v) holdings
    some_within best [] v e = (subst (λ o. NotAbove o v) (sym e) (below_itself (seen v)), inl e, tt)
    some_within best (holding ∷ holdings) v e =
        let o = within seen bound holding.here in
        let rest = some_within (greater_of seen best o) holdings v e in
        let both = parts v best o rest.0 in (
          both.0,
          elim rest.1 [
            | inl is ↦ elim (from_either v best o is) [
              | inl best_is ↦ inl best_is
              | inr here ↦ inr (holding, Contains-append_left (holding ∷ []) holdings holding (Contains-push [] holding), here)
            ]
            | inr later ↦ inr (later.0, Contains-append_right (holding ∷ []) holdings later.0 later.1, later.2)
          ],
          (both.1, rest.2),
        )

    pub nothing_within : (holdings : List (Holding X)) → greatest_within seen bound holdings ≡ None → All (λ holding. within seen bound holding.here ≡ None) holdings
    nothing_within holdings e = All-from_recursion (λ holding. within seen bound holding.here ≡ None) holdings (none_within None holdings e).1

    pub greatest_here : (holdings : List (Holding X)) (v : X) → greatest_within seen bound holdings ≡ Some v → IsHere holdings v
    greatest_here holdings v e =
        elim (some_within None holdings v e).1 [
          | inl never ↦ absurd cc
          | inr here ↦ here
        ]

    -- one side more
    pub greatest_more : (sides : List (MergeCursor X)) (i : ℕ) (d : MergeCursor X) → i < length sides
        → greater_of seen (greatest_within seen bound (map holding_of (take i sides))) (within seen bound (get_or sides i d).here) ≡ greatest_within seen bound (map holding_of (take (i + 1) sides))
    greatest_more sides i d less =
        let cursor = get_or sides i d in
        sym (
        ap (λ (xs : List (MergeCursor X)). greatest_within seen bound (map holding_of xs)) (take_more sides i d less)
        ∙ ap (greatest_within seen bound) (map-append holding_of (take i sides) (cursor ∷ []))
        ∙ fold_push (λ most holding. greater_of seen most (within seen bound holding.here)) None (map holding_of (take i sides)) (holding_of cursor)
        )

  unbounded : (o : Option X) → within seen None o ≡ o
  unbounded None = refl
  unbounded (Some v) = refl

  below_or : (t : Bool) (w v : X) → cond t (Some w) None ≡ Some v → (w ≡ v) × (t ≡ true)
  below_or true w v e = (cc, refl)
  below_or false w v e = absurd cc

  is_within : (above : X) (o : Option X) (v : X) → within seen (Some above) o ≡ Some v → (o ≡ Some v) × (is_below (seen v) (seen above) ≡ true)
  is_within above None v e = absurd cc
  is_within above (Some w) v e =
      let parts = below_or (is_below (seen w) (seen above)) w v e in
      (ap Some parts.0, subst (λ x. is_below (seen x) (seen above) ≡ true) parts.0 parts.1)

  -- ---- the versions found so far, of which the last is the least

  pub record IsChain (holdings : List (Holding X)) (versions : List X) (last : X) : Type 0 where
    pub order : AllPairs (λ one other. is_below (seen other) (seen one) ≡ true) versions
    pub held : All (λ v. (holding : Holding X) × Contains holdings holding × (holding.here ≡ Some v)) versions
    pub bottom : All (λ w. (w ≡ last) ⊎ (is_below (seen last) (seen w) ≡ true)) versions
    pub rest : (holding : Holding X) (v : X) → Contains holdings holding → holding.here ≡ Some v
        → ((w : X) × Contains versions w × (is_same seen (Some v) (Some w) ≡ true)) ⊎ (is_below (seen v) (seen last) ≡ true)

  further : (v last w : X) → is_below (seen v) (seen last) ≡ true → (w ≡ last) ⊎ (is_below (seen last) (seen w) ≡ true) → is_below (seen v) (seen w) ≡ true
  further v last w below which =
      elim which [
        | inl is ↦ subst (λ x. is_below (seen v) (seen x) ≡ true) (sym is) below
        | inr over ↦ below_trans (seen v) (seen last) (seen w) below over
      ]

  pub chain_below : (holdings : List (Holding X)) (last v : X) → greatest_within seen (Some last) holdings ≡ Some v → is_below (seen v) (seen last) ≡ true
  chain_below holdings last v e = let here = greatest_here (Some last) holdings v e in (is_within last here.0.here v here.2).1

  -- ---- how many are below the last

  one_if : Option X → ℕ
  one_if None = 0
  one_if (Some v) = 1

  pub below_count : X → List (Holding X) → ℕ
  below_count last [] = 0
  below_count last (holding ∷ holdings) = one_if (within seen (Some last) holding.here) + below_count last holdings

  fewer_by : (t u : Bool) (w : X) → (t ≡ true → u ≡ true) → one_if (cond t (Some w) None) ≤ one_if (cond u (Some w) None)
  unfolding one_if
  fewer_by true true w both = omega arith
  fewer_by true false w both = let never = both refl in absurd cc
  fewer_by false true w both = omega arith
  fewer_by false false w both = omega arith

  no_more : (v last : X) → is_below (seen v) (seen last) ≡ true → (o : Option X) → one_if (within seen (Some v) o) ≤ one_if (within seen (Some last) o)
  unfolding one_if
  no_more v last below None = omega arith
  no_more v last below (Some w) = fewer_by (is_below (seen w) (seen v)) (is_below (seen w) (seen last)) w (λ under. below_trans (seen w) (seen v) (seen last) under below)

  fewer : (v last : X) (o : Option X) → within seen (Some last) o ≡ Some v → one_if (within seen (Some v) o) < one_if (within seen (Some last) o)
  unfolding one_if
  fewer v last o e =
      let inside = is_within last o v e in
      let itself = below_itself (seen v) in
      rw (e, inside.0, itself) (omega arith)

  pub counts_no_more : (v last : X) → is_below (seen v) (seen last) ≡ true → (holdings : List (Holding X)) → below_count v holdings ≤ below_count last holdings
  unfolding below_count
  counts_no_more v last below [] = omega arith
  counts_no_more v last below (holding ∷ holdings) = let here = no_more v last below holding.here in let rest = counts_no_more v last below holdings in omega arith

  count_falls : (v last : X) → is_below (seen v) (seen last) ≡ true → (best : Option X) (holdings : List (Holding X))
      → fold (λ most holding. greater_of seen most (within seen (Some last) holding.here)) best holdings ≡ Some v
      → (best ≡ Some v) ⊎ (below_count v holdings < below_count last holdings)
  unfolding below_count
  count_falls v last below best [] e = inl e
  count_falls v last below best (holding ∷ holdings) e =
      let o = within seen (Some last) holding.here in
      let here = no_more v last below holding.here in
      let all = counts_no_more v last below holdings in
      elim (count_falls v last below (greater_of seen best o) holdings e) [
        | inl is ↦ elim (from_either v best o is) [
          | inl best_is ↦ inl best_is
          | inr first ↦ let less = fewer v last holding.here first in inr (omega arith)
        ]
        | inr later ↦ inr (omega arith)
      ]

  pub falls : (v last : X) (holdings : List (Holding X)) → greatest_within seen (Some last) holdings ≡ Some v → below_count v holdings < below_count last holdings
  falls v last holdings e =
      elim (count_falls v last (chain_below holdings last v e) None holdings e) [
        | inl never ↦ absurd cc
        | inr less ↦ less
      ]
