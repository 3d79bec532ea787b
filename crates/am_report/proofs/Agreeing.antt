-- Nothing is different exactly where all sources are the same; and the greatest version at a key is best in all sources.
use Rattle.std.proofs.Common.{◌≡◌, ℕ, suc, Bool, true, false, not, cond, ◌||◌, List, [], ◌∷◌, Option, Some, None, map, refl, sym, ap, ◌∙◌, subst, ◌⊎◌, inl, inr, ◌↔◌, arith}
use Rattle.std.specs.Prelude.{All, AllPairs, Contains}
use Rattle.std.specs.List.{list_any, flat_map}
use Rattle.std.proofs.lemmas.List.Elements.{All-nil, All-head, All-contains, recursion_from_All, Contains-append_left, Contains-append_right, Contains-append_cases, Contains-push, Contains-push_cases}
use Rattle.std.specs.declared.cmp.Ordering.{Ordering}
use Rattle.std.specs.declared.cmp.Ordering.TheVariants.{Less, Equal, Greater}
use Rattle.std.specs.Ordering.{is_lt, is_eq, ordering_reverse}
use Rattle.std.specs.Cmp.{Equal-is}
use Rattle.std.proofs.lemmas.Cmp.{tied_itself}
use Rattle.am_version_order.specs.Versions.{Version, rank_cmp, is_below, is_live}
use Rattle.am_version_order.proofs.Ranks.{rank_total, rank_exact}
use Rattle.am_merge.specs.Maps.{IsMap, at, swept}
use Rattle.am_merge.specs.Views.{IsBest}
use Rattle.am_merge.proofs.Keys.{IsKeyOrder, at-Some, at-Contains}
use Rattle.am_merge.proofs.Puts.{at-member}
use Rattle.am_merge.proofs.Joins.{same_map}
use Rattle.am_merge.proofs.Sweeps.{IsMap-filter, at-swept}
use Rattle.am_report.specs.Sources.{Source, Holding}
use Rattle.am_report.specs.Differences.{compared_of, is_same, is_different, held_at, AreDifferences}
use Rattle.am_report.specs.Groups.{AreRanked}
use Rattle.am_report.specs.declared.compared.Compared.{Compared}
use Rattle.am_report.specs.declared.compared.Compared.TheVariants.{Shown, Held}

-- ---- elements of lists

no_element : {X : Type 0} (x : X) → Contains [] x → ⊥
no_element x among = let less = among.1 in omega (arith, less)

pub first_or : {X : Type 0} (x y : X) (xs : List X) → Contains (x ∷ xs) y → (x ≡ y) ⊎ Contains xs y
first_or x y xs among =
    elim (Contains-append_cases (x ∷ []) xs y among) [
      | inl first ↦ elim (Contains-push_cases [] x y first) [
        | inl never ↦ absurd (no_element y never)
        | inr is ↦ inl is
      ]
      | inr later ↦ inr later
    ]

pub among_first : {X : Type 0} (x : X) (xs : List X) → Contains (x ∷ xs) x
among_first x xs = Contains-append_left (x ∷ []) xs x (Contains-push [] x)

pub among_rest : {X : Type 0} (x y : X) (xs : List X) → Contains xs y → Contains (x ∷ xs) y
among_rest x y xs among = Contains-append_right (x ∷ []) xs y among

-- an element of a list that is made of another
pub from_map : {A B : Type 0} (f : A → B) (xs : List A) (y : B) → Contains (map f xs) y → (x : A) × Contains xs x × (f x ≡ y)
from_map f [] y among = absurd (no_element y among)
from_map f (x ∷ xs) y among =
    elim (first_or (f x) y (map f xs) among) [
      | inl is ↦ (x, among_first x xs, is)
      | inr later ↦ let rest = from_map f xs y later in (rest.0, among_rest x rest.0 xs rest.1, rest.2)
    ]

pub to_map : {A B : Type 0} (f : A → B) (xs : List A) (x : A) → Contains xs x → Contains (map f xs) (f x)
to_map f [] x among = absurd (no_element x among)
to_map f (z ∷ xs) x among =
    elim (first_or z x xs among) [
      | inl is ↦ subst (λ y. Contains (f z ∷ map f xs) (f y)) is (among_first (f z) (map f xs))
      | inr later ↦ among_rest (f z) (f x) (map f xs) (to_map f xs x later)
    ]

pub from_flat_map : {A B : Type 0} (f : A → List B) (xs : List A) (y : B) → Contains (flat_map f xs) y → (x : A) × Contains xs x × Contains (f x) y
from_flat_map f [] y among = absurd (no_element y among)
from_flat_map f (x ∷ xs) y among =
    elim (Contains-append_cases (f x) (flat_map f xs) y among) [
      | inl here ↦ (x, among_first x xs, here)
      | inr later ↦ let rest = from_flat_map f xs y later in (rest.0, among_rest x rest.0 xs rest.1, rest.2)
    ]

pub to_flat_map : {A B : Type 0} (f : A → List B) (xs : List A) (x : A) (y : B) → Contains xs x → Contains (f x) y → Contains (flat_map f xs) y
to_flat_map f [] x y among here = absurd (no_element x among)
to_flat_map f (z ∷ xs) x y among here =
    elim (first_or z x xs among) [
      | inl is ↦ Contains-append_left (f z) (flat_map f xs) y (subst (λ w. Contains (f w) y) (sym is) here)
      | inr later ↦ Contains-append_right (f z) (flat_map f xs) y (to_flat_map f xs x y later here)
    ]

-- what holds of the first and each other one
pairs_head : {X : Type 0} (R : X → X → Type 0) (x : X) (xs : List X) → AllPairs R (x ∷ xs) → All (R x) xs
pairs_head R x xs pairs = λ k d less. pairs 0 (suc k) d (omega arith) (omega arith)

-- ---- what is the same

or_false : (a b : Bool) → (a || b) ≡ false → (a ≡ false) × (b ≡ false)
or_false true b e = absurd cc
or_false false b e = (refl, e)

not_false : (b : Bool) → not b ≡ false → b ≡ true
not_false true e = refl
not_false false e = cc

none_passes : {A : Type 0} (test : A → Bool) (xs : List A) (x : A) → list_any test xs ≡ false → Contains xs x → test x ≡ false
none_passes test [] x none among = absurd (no_element x among)
none_passes test (z ∷ xs) x none among =
    let both = or_false (test z) (list_any test xs) none in
    elim (first_or z x xs among) [
      | inl is ↦ subst (λ y. test y ≡ false) is both.0
      | inr later ↦ none_passes test xs x both.1 later
    ]

all_fail : {A : Type 0} (test : A → Bool) (xs : List A) → ((x : A) → Contains xs x → test x ≡ false) → list_any test xs ≡ false
all_fail test [] fails = refl
all_fail test (x ∷ xs) fails = rw (fails x (among_first x xs), all_fail test xs (λ y among. fails y (among_rest x y xs among))) refl

module _ {K X : Type 0} (seen : X → Version K) where
  rank_itself : (v : X) → is_same seen (Some v) (Some v) ≡ true
  rank_itself v = ap is_eq (tied_itself rank_total (seen v))

  same_itself : (o : Option X) → is_same seen o o ≡ true
  same_itself None = refl
  same_itself (Some v) = rank_itself v

  live_from : (b : Bool) (v w : X) → cond b (Some v) None ≡ Some w → Some v ≡ Some w
  live_from true v w e = e
  live_from false v w e = cc

  compared_from : (compared : Compared) (now : ℕ) (o : Option X) (v : X) → compared_of seen compared now o ≡ Some v → o ≡ Some v
  compared_from Held now o v e = e
  compared_from Shown now None v e = e
  compared_from Shown now (Some w) v e = live_from (is_live now (seen w)) w v e

  module _ (cmp : K → K → Ordering) (keys : IsKeyOrder cmp) where
    -- where all are the same at each key, nothing is different
    all_same_at : (compared : Compared) (now : ℕ) (key : K) (sources : List (Source X))
        → ((one other : Source X) → Contains sources one → Contains sources other → compared_of seen compared now (at seen cmp one.held key) ≡ compared_of seen compared now (at seen cmp other.held key))
        → is_different seen compared now (held_at seen cmp key sources) ≡ false
    all_same_at compared now key [] same = refl
    all_same_at compared now key (first ∷ others) same =
        all_fail (λ other. not (is_same seen (compared_of seen compared now (at seen cmp first.held key)) (compared_of seen compared now other.here))) (held_at seen cmp key others)
        (λ holding among.
        let found = from_map (λ (source : Source X). let h : Holding X = record { name = source.name; here = at seen cmp source.held key } in h) others holding among in
        let one = same first found.0 (among_first first others) (among_rest first found.0 others found.1) in
        subst (λ (h : Holding X). not (is_same seen (compared_of seen compared now (at seen cmp first.held key)) (compared_of seen compared now h.here)) ≡ false) found.2
        (rw (sym one, same_itself (compared_of seen compared now (at seen cmp first.held key))) refl))

    pub nothing_from_same : (compared : Compared) (now : ℕ) (sources : List (Source X))
        → ((key : K) (one other : Source X) → Contains sources one → Contains sources other → compared_of seen compared now (at seen cmp one.held key) ≡ compared_of seen compared now (at seen cmp other.held key))
        → AreDifferences seen cmp compared now sources []
    nothing_from_same compared now sources same = record {
      order = λ i j d less within. absurd (omega (arith, within));
      held = All-nil _;
      different = All-nil _;
      whole = λ key differs. let none = all_same_at compared now key sources (same key) in absurd cc;
    }

    module _ (is_value : X → Type 0) (exact : (v w : X) → is_value v → is_value w → seen v ≡ seen w → v ≡ w) where
      same_one : (key : K) (o p : Option X) → ((v : X) → o ≡ Some v → ((seen v).key ≡ key) × is_value v) → ((v : X) → p ≡ Some v → ((seen v).key ≡ key) × is_value v)
          → is_same seen o p ≡ true → o ≡ p
      same_one key None None left right e = refl
      same_one key None (Some w) left right e = cc
      same_one key (Some v) None left right e = cc
      same_one key (Some v) (Some w) left right e =
          let here = left v refl in
          let there = right w refl in
          ap Some (exact v w here.1 there.1 (rank_exact (seen v) (seen w) (here.0 ∙ sym there.0) ((Equal-is (rank_cmp (seen v) (seen w))).0 e)))

      value_at : (compared : Compared) (now : ℕ) (key : K) (held : List X) → All is_value held → (v : X) → compared_of seen compared now (at seen cmp held key) ≡ Some v → ((seen v).key ≡ key) × is_value v
      value_at compared now key held values v e = at-Some seen cmp keys is_value held key v (recursion_from_All is_value held values) (compared_from compared now (at seen cmp held key) v e)

      not_different : (b : Bool) → (b ≡ true → ⊥) → b ≡ false
      not_different true never = absurd (never refl)
      not_different false never = refl

      module _ (compared : Compared) (now : ℕ) (key : K) where
        with_first : (first : Source X) (others : List (Source X)) → All (λ source. All is_value source.held) (first ∷ others) → is_different seen compared now (held_at seen cmp key (first ∷ others)) ≡ false
            → (other : Source X) → Contains (first ∷ others) other → compared_of seen compared now (at seen cmp first.held key) ≡ compared_of seen compared now (at seen cmp other.held key)
        with_first first others values none other among =
            elim (first_or first other others among) [
              | inl is ↦ ap (λ (s : Source X). compared_of seen compared now (at seen cmp s.held key)) is
              | inr later ↦
                  let holding : Holding X = record { name = other.name; here = at seen cmp other.held key } in
                  let there = to_map (λ (source : Source X). let h : Holding X = record { name = source.name; here = at seen cmp source.held key } in h) others other later in
                  let fails = none_passes (λ (h : Holding X). not (is_same seen (compared_of seen compared now (at seen cmp first.held key)) (compared_of seen compared now h.here))) (held_at seen cmp key others) holding none there in
                  same_one key (compared_of seen compared now (at seen cmp first.held key)) (compared_of seen compared now (at seen cmp other.held key))
                  (value_at compared now key first.held (All-head (λ (source : Source X). All is_value source.held) first others values))
                  (value_at compared now key other.held (All-contains (λ (source : Source X). All is_value source.held) (first ∷ others) other values among))
                  (not_false _ fails)
            ]

        pub same_from_nothing : (sources : List (Source X)) → All (λ source. All is_value source.held) sources → AreDifferences seen cmp compared now sources []
            → (one other : Source X) → Contains sources one → Contains sources other → compared_of seen compared now (at seen cmp one.held key) ≡ compared_of seen compared now (at seen cmp other.held key)
        same_from_nothing [] values none one other here there = absurd (no_element one here)
        same_from_nothing (first ∷ others) values none one other here there =
            let quiet : is_different seen compared now (held_at seen cmp key (first ∷ others)) ≡ false =
            not_different _ (λ differs. let found = none.whole key differs in no_element found.0 found.1) in
            sym (with_first first others values quiet one here) ∙ with_first first others values quiet other there

    -- ---- the greatest is best

    tied_not_below : (v w : X) → is_same seen (Some w) (Some v) ≡ true → is_below (seen v) (seen w) ≡ false
    unfolding is_below
    tied_not_below v w tied =
        let equal = (Equal-is (rank_cmp (seen w) (seen v))).0 tied in
        let back : rank_cmp (seen v) (seen w) ≡ Equal = rank_total.antisymm (seen v) (seen w) ∙ ap ordering_reverse equal in
        ap is_lt back

    less_from : (r : Ordering) → is_lt r ≡ true → r ≡ Less
    less_from Less e = refl
    less_from Equal e = absurd cc
    less_from Greater e = absurd cc

    below_not_above : (g x w : X) → is_same seen (Some w) (Some x) ≡ true → is_below (seen x) (seen g) ≡ true → is_below (seen g) (seen w) ≡ false
    unfolding is_below
    below_not_above g x w tied below =
        let equal = (Equal-is (rank_cmp (seen w) (seen x))).0 tied in
        let less : rank_cmp (seen w) (seen g) ≡ Less = rank_total.congr (seen w) (seen x) (seen g) equal ∙ less_from (rank_cmp (seen x) (seen g)) below in
        let back : rank_cmp (seen g) (seen w) ≡ Greater = rank_total.antisymm (seen g) (seen w) ∙ ap ordering_reverse less in
        ap is_lt back

    pub greatest_best : (sources : List (Source X)) (key : K) (greatest : X) (others : List X) → All (λ source. IsMap seen cmp source.held) sources
        → AreRanked seen (held_at seen cmp key sources) (greatest ∷ others) → IsBest seen (flat_map (λ source. source.held) sources) greatest
    greatest_best sources key greatest others maps ranked =
        let at_key : Source X → Holding X = λ (source : Source X). record { name = source.name; here = at seen cmp source.held key } in
        let held_of : Source X → List X = λ (source : Source X). source.held in
        let here = All-head (λ v. (holding : Holding X) × Contains (held_at seen cmp key sources) holding × (holding.here ≡ Some v)) greatest others ranked.held in
        let source = from_map at_key sources here.0 here.1 in
        let found : at seen cmp source.0.held key ≡ Some greatest = ap (λ (h : Holding X). h.here) source.2 ∙ here.2 in
        let inside = at-Contains seen cmp keys source.0.held key greatest found in
        record {
          member = to_flat_map held_of sources source.0 greatest source.1 inside.1;
          unbeaten = λ w among same.
              let other = from_flat_map held_of sources w among in
              let is_map = All-contains (λ (s : Source X). IsMap seen cmp s.held) sources other.0 maps other.1 in
              let there : at seen cmp other.0.held key ≡ Some w = ap (λ k. at seen cmp other.0.held k) (sym (same ∙ inside.0)) ∙ at-member seen cmp keys other.0.held w is_map other.2 in
              let tied = ranked.whole (at_key other.0) w (to_map at_key sources other.0 other.1) there in
              elim (first_or greatest tied.0 others tied.1) [
                | inl is ↦ tied_not_below greatest w (subst (λ x. is_same seen (Some w) (Some x) ≡ true) (sym is) tied.2)
                | inr later ↦ below_not_above greatest tied.0 w tied.2 (All-contains (λ x. is_below (seen x) (seen greatest) ≡ true) others tied.0 (pairs_head (λ one other. is_below (seen other) (seen one) ≡ true) greatest others ranked.order) later)
              ];
        }

    -- ---- the laws

    module _ (is_value : X → Type 0) (exact : (v w : X) → is_value v → is_value w → seen v ≡ seen w → v ≡ w) (sources : List (Source X)) (now : ℕ)
        (maps : All (λ source. IsMap seen cmp source.held) sources) (values : All (λ source. All is_value source.held) sources) where
      map_of : (source : Source X) → Contains sources source → IsMap seen cmp source.held
      map_of source among = All-contains (λ (s : Source X). IsMap seen cmp s.held) sources source maps among

      pub held_alike : AreDifferences seen cmp Held now sources [] ↔ ((one other : Source X) → Contains sources one → Contains sources other → one.held ≡ other.held)
      held_alike = (
        λ nothing one other here there.
            same_map seen cmp keys one.held other.held (map_of one here) (map_of other there)
            (λ key. same_from_nothing is_value exact Held now key sources values nothing one other here there),
        λ same. nothing_from_same Held now sources (λ key one other here there. ap (λ (held : List X). at seen cmp held key) (same one other here there)),
      )

      pub shown_alike : AreDifferences seen cmp Shown now sources [] ↔ ((one other : Source X) → Contains sources one → Contains sources other → swept seen now one.held ≡ swept seen now other.held)
      shown_alike = (
        λ nothing one other here there.
            same_map seen cmp keys (swept seen now one.held) (swept seen now other.held)
            (IsMap-filter seen cmp (λ v. is_live now (seen v)) one.held (map_of one here)) (IsMap-filter seen cmp (λ v. is_live now (seen v)) other.held (map_of other there))
            (λ key.
            at-swept seen cmp keys now one.held key (map_of one here)
            ∙ same_from_nothing is_value exact Shown now key sources values nothing one other here there
            ∙ sym (at-swept seen cmp keys now other.held key (map_of other there))),
        λ same. nothing_from_same Shown now sources (λ key one other here there.
            sym (at-swept seen cmp keys now one.held key (map_of one here))
            ∙ ap (λ (held : List X). at seen cmp held key) (same one other here there)
            ∙ at-swept seen cmp keys now other.held key (map_of other there)),
      )
