-- The differences that are left behind a step of a walk.
use Rattle.std.proofs.Common.{◌≡◌, ◌≢◌, ℕ, ◌<◌, true, false, not, List, [], ◌∷◌, Option, Some, None, map, refl, sym, ap, ◌∙◌, subst, arith, inl, inr}
use Rattle.std.specs.Prelude.{All, Contains}
use Rattle.std.specs.List.{AllByRecursion, list_any}
use Rattle.std.proofs.lemmas.Bool.{cases_Bool}
use Rattle.std.proofs.lemmas.List.Elements.{All-nil, All-cons, All-from_recursion, recursion_from_All, Contains-append_left, Contains-append_right, Contains-push}
use Rattle.std.proofs.lemmas.List.Kept.{AllPairs-cons}
use Rattle.std.specs.declared.cmp.Ordering.{Ordering}
use Rattle.std.specs.declared.cmp.Ordering.TheVariants.{Less, Equal, Greater}
use Rattle.std.specs.Ordering.{is_eq, eq_by_cmp, ordering_reverse}
use Rattle.am_version_order.specs.Versions.{Version}
use Rattle.am_merge.specs.Maps.{IsMap, at}
use Rattle.am_merge.proofs.Keys.{IsKeyOrder, AreAbove, at-above, below_further, same_key}
use Rattle.am_report.specs.Sources.{Source, Holding, MergeCursor, left_of_all, come_to, rest_of, holding_of}
use Rattle.am_report.specs.Differences.{Difference, compared_of, is_same, is_different, held_at, AreDifferences}
use Rattle.am_report.specs.Walks.{StartsFrom, least_of}
use Rattle.am_report.specs.declared.compared.Compared.{Compared}
use Rattle.am_report.specs.declared.compared.Compared.TheVariants.{Shown, Held}
use Rattle.am_report.proofs.Walking.{first_is_at, behind_above, at-behind, nothing_left, least_left, first_left, fewer_left}

module _ {K X : Type 0} (seen : X → Version K) where
  -- where no source holds anything, none is different
  none_compared : (compared : Compared) (now : ℕ) (o : Option X) → o ≡ None → compared_of seen compared now o ≡ None
  none_compared Shown now o e = rw e refl
  none_compared Held now o e = e

  no_other : (compared : Compared) (now : ℕ) (first : Option X) (others : List (Holding X)) → first ≡ None → AllByRecursion (λ holding. holding.here ≡ None) others
      → list_any (λ other. not (is_same seen first (compared_of seen compared now other.here))) others ≡ false
  no_other compared now first [] e none = refl
  no_other compared now first (other ∷ others) e none =
      rw (no_other compared now first others e none.1, e, none_compared compared now other.here none.0) refl

  pub none_different : (compared : Compared) (now : ℕ) (holdings : List (Holding X)) → AllByRecursion (λ holding. holding.here ≡ None) holdings → is_different seen compared now holdings ≡ false
  none_different compared now [] none = refl
  none_different compared now (first ∷ others) none =
      no_other compared now (compared_of seen compared now first.here) others (none_compared compared now first.here none.0) none.1

  module _ (cmp : K → K → Ordering) (keys : IsKeyOrder cmp) where
    abbrev pub AreInOrder : List (MergeCursor X) → Type 0
    AreInOrder sides = AllByRecursion (λ cursor. IsMap seen cmp cursor.left) sides

    abbrev pub StartFrom : K → List (MergeCursor X) → Type 0
    StartFrom key sides = AllByRecursion (λ cursor. StartsFrom seen cmp key cursor.left) sides

    pub still_in_order : (key : K) (sides : List (MergeCursor X)) → AreInOrder sides → StartFrom key sides → AreInOrder (map (come_to seen cmp key) sides)
    still_in_order key [] order from = tt
    still_in_order key (cursor ∷ sides) order from = ((behind_above seen cmp keys key cursor.left order.0 from.0).0, still_in_order key sides order.1 from.1)

    -- the sides then hold what their sources hold at the key
    pub holdings_there : (key : K) (sides : List (MergeCursor X)) → AreInOrder sides → StartFrom key sides → map holding_of (map (come_to seen cmp key) sides) ≡ held_at seen cmp key (map rest_of sides)
    holdings_there key [] order from = refl
    holdings_there key (cursor ∷ sides) order from =
        let here : holding_of (come_to seen cmp key cursor) ≡ record { name = cursor.name; here = at seen cmp cursor.left key } =
        ap (λ (o : Option X). let holding : Holding X = record { name = cursor.name; here = o } in holding) (first_is_at seen cmp keys key cursor.left order.0 from.0) in
        let rest = holdings_there key sides order.1 from.1 in
        cc

    -- at other keys the same is left
    pub held_later : (key k : K) (sides : List (MergeCursor X)) → eq_by_cmp cmp key k ≡ false → held_at seen cmp k (map rest_of (map (come_to seen cmp key) sides)) ≡ held_at seen cmp k (map rest_of sides)
    held_later key k [] other = refl
    held_later key k (cursor ∷ sides) other =
        let here = ap (λ (o : Option X). let holding : Holding X = record { name = cursor.name; here = o } in holding) (at-behind seen cmp keys key k cursor.left other) in
        let rest = held_later key k sides other in
        cc

    -- and nothing at keys that are not above
    lower : (key k : K) (left : List X) (r : Ordering) → cmp key k ≡ r → r ≢ Less → AreAbove seen cmp key left → AreAbove seen cmp k left
    lower key k left Less e from above = absurd (from refl)
    lower key k left Equal e from above = subst (λ j. AreAbove seen cmp j left) (keys.exact key k e) above
    lower key k left Greater e from above = below_further seen cmp keys k key left (keys.total.antisymm k key ∙ ap ordering_reverse e) above

    nothing_lower : (key k : K) (sides : List (MergeCursor X)) → AreInOrder sides → StartFrom key sides → (r : Ordering) → cmp key k ≡ r → r ≢ Less
        → AllByRecursion (λ holding. holding.here ≡ None) (held_at seen cmp k (map rest_of (map (come_to seen cmp key) sides)))
    nothing_lower key k [] order from r e not_less = tt
    nothing_lower key k (cursor ∷ sides) order from r e not_less =
        let parts = behind_above seen cmp keys key cursor.left order.0 from.0 in
        (at-above seen cmp keys _ k (lower key k _ r e not_less parts.1), nothing_lower key k sides order.1 from.1 r e not_less)

    module _ (compared : Compared) (now : ℕ) (key : K) (sides : List (MergeCursor X)) (order : AreInOrder sides) (from : StartFrom key sides) where
      abbrev old : List (Source X)
      old = map rest_of sides

      abbrev new : List (Source X)
      new = map rest_of (map (come_to seen cmp key) sides)

      abbrev row : List (Holding X)
      row = map holding_of (map (come_to seen cmp key) sides)

      later_by : (k : K) (r : Ordering) → cmp key k ≡ r → is_different seen compared now (held_at seen cmp k new) ≡ true → r ≡ Less
      later_by k Less e differs = refl
      later_by k Equal e differs = let none = none_different compared now _ (nothing_lower key k sides order from Equal e (λ is. cc)) in absurd cc
      later_by k Greater e differs = let none = none_different compared now _ (nothing_lower key k sides order from Greater e (λ is. cc)) in absurd cc

      -- each difference behind the key is one of the whole, and comes later
      one_later : (difference : Difference K X) → difference.holdings ≡ held_at seen cmp difference.key new → is_different seen compared now difference.holdings ≡ true
          → (cmp key difference.key ≡ Less) × (difference.holdings ≡ held_at seen cmp difference.key old)
      one_later difference held differs =
          let k = difference.key in
          let later = later_by k (cmp key k) refl (subst (λ holdings. is_different seen compared now holdings ≡ true) held differs) in
          (later, held ∙ held_later key k sides (ap is_eq later))

      whole_from : (differences : List (Difference K X)) → AreDifferences seen cmp compared now new differences → (k : K) → is_different seen compared now (held_at seen cmp k old) ≡ true
          → eq_by_cmp cmp key k ≡ false → (difference : Difference K X) × Contains differences difference × (difference.key ≡ k)
      whole_from differences are k differs other = are.whole k (subst (λ holdings. is_different seen compared now holdings ≡ true) (sym (held_later key k sides other)) differs)

      pub step_over : (differences : List (Difference K X)) → is_different seen compared now row ≡ false → AreDifferences seen cmp compared now new differences → AreDifferences seen cmp compared now old differences
      step_over differences same are = record {
        order = are.order;
        held = λ i d within. (one_later _ (are.held i d within) (are.different i d within)).1;
        different = are.different;
        whole = λ k differs. elim (cases_Bool (eq_by_cmp cmp key k)) [
          | inl here ↦
              let there = subst (λ j. is_different seen compared now (held_at seen cmp j old) ≡ true) (sym (same_key seen cmp keys key k here)) differs in
              let none = ap (is_different seen compared now) (holdings_there key sides order from) in
              absurd cc
          | inr other ↦ whole_from differences are k differs other
        ];
      }

      pub step_on : (differences : List (Difference K X)) → is_different seen compared now row ≡ true → AreDifferences seen cmp compared now new differences
          → AreDifferences seen cmp compared now old (record { key = key; holdings = row } ∷ differences)
      step_on differences differs are =
          let first : Difference K X = record { key = key; holdings = row } in
          record {
            order = AllPairs-cons (λ one other. cmp one.key other.key ≡ Less) first differences (λ i d within. (one_later _ (are.held i d within) (are.different i d within)).0) are.order;
            held = All-cons (λ difference. difference.holdings ≡ held_at seen cmp difference.key old) first differences (holdings_there key sides order from)
                (λ i d within. (one_later _ (are.held i d within) (are.different i d within)).1);
            different = All-cons (λ difference. is_different seen compared now difference.holdings ≡ true) first differences differs are.different;
            whole = λ k there. elim (cases_Bool (eq_by_cmp cmp key k)) [
              | inl here ↦ (first, Contains-append_left (first ∷ []) differences first (Contains-push [] first), same_key seen cmp keys key k here)
              | inr other ↦ let found = whole_from differences are k there other in (found.0, Contains-append_right (first ∷ []) differences found.0 found.1, found.2)
            ];
          }

    -- where nothing is left, nothing is different
    nothing_at : (k : K) (sides : List (MergeCursor X)) → AllByRecursion (λ cursor. cursor.left ≡ []) sides → AllByRecursion (λ holding. holding.here ≡ None) (held_at seen cmp k (map rest_of sides))
    nothing_at k [] none = tt
    nothing_at k (cursor ∷ sides) none = (ap (λ (left : List X). at seen cmp left k) none.0, nothing_at k sides none.1)

    pub at_end : (compared : Compared) (now : ℕ) (sides : List (MergeCursor X)) → AllByRecursion (λ cursor. cursor.left ≡ []) sides → AreDifferences seen cmp compared now (map rest_of sides) []
    at_end compared now sides none = record {
      order = λ i j d less within. absurd (omega (arith, within));
      held = All-nil _;
      different = All-nil _;
      whole = λ k differs. let same = none_different compared now _ (nothing_at k sides none) in absurd cc;
    }

    -- ---- the same, as the code makes a step: to the least key that is left

    module _ (compared : Compared) (now : ℕ) (sides : List (MergeCursor X)) where
      abbrev pub IsStep : List (MergeCursor X) → (List (Difference K X) → List (Difference K X)) → Type 0
      IsStep new more =
          All (λ cursor. IsMap seen cmp cursor.left) new
          × ((differences : List (Difference K X)) → AreDifferences seen cmp compared now (map rest_of new) differences → AreDifferences seen cmp compared now (map rest_of sides) (more differences))
          × (left_of_all new < left_of_all sides)

      pub walk_over : (v : X) (next : List (MergeCursor X)) → Some v ≡ least_of seen cmp sides → next ≡ map (come_to seen cmp (seen v).key) sides → is_different seen compared now (map holding_of next) ≡ false
          → All (λ cursor. IsMap seen cmp cursor.left) sides → IsStep next (λ differences. differences)
      walk_over v next least is same order =
          let key = (seen v).key in
          let in_order = recursion_from_All (λ (cursor : MergeCursor X). IsMap seen cmp cursor.left) sides order in
          let from = least_left seen cmp keys sides v (sym least) in
          let quiet = subst (λ (n : List (MergeCursor X)). is_different seen compared now (map holding_of n) ≡ false) is same in
          subst (λ (n : List (MergeCursor X)). IsStep n (λ differences. differences)) (sym is) (
            All-from_recursion (λ (cursor : MergeCursor X). IsMap seen cmp cursor.left) _ (still_in_order key sides in_order from),
            (λ differences are. step_over compared now key sides in_order from differences quiet are),
            fewer_left seen cmp keys key sides (first_left seen cmp keys sides v (sym least)),
          )

      pub walk_on : (v : X) (next : List (MergeCursor X)) → Some v ≡ least_of seen cmp sides → next ≡ map (come_to seen cmp (seen v).key) sides → is_different seen compared now (map holding_of next) ≡ true
          → All (λ cursor. IsMap seen cmp cursor.left) sides → IsStep next (λ differences. record { key = (seen v).key; holdings = map holding_of next } ∷ differences)
      walk_on v next least is differs order =
          let key = (seen v).key in
          let in_order = recursion_from_All (λ (cursor : MergeCursor X). IsMap seen cmp cursor.left) sides order in
          let from = least_left seen cmp keys sides v (sym least) in
          let there = subst (λ (n : List (MergeCursor X)). is_different seen compared now (map holding_of n) ≡ true) is differs in
          subst (λ (n : List (MergeCursor X)). IsStep n (λ differences. record { key = (seen v).key; holdings = map holding_of n } ∷ differences)) (sym is) (
            All-from_recursion (λ (cursor : MergeCursor X). IsMap seen cmp cursor.left) _ (still_in_order key sides in_order from),
            (λ differences are. step_on compared now key sides in_order from differences there are),
            fewer_left seen cmp keys key sides (first_left seen cmp keys sides v (sym least)),
          )

      pub walk_end : None ≡ least_of seen cmp sides → AreDifferences seen cmp compared now (map rest_of sides) []
      walk_end none = at_end compared now sides (nothing_left seen cmp keys sides (sym none))
