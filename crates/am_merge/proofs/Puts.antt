-- A version put into a map: at each key the greater one, and the keys still rise.
use Rattle.std.proofs.Common.{◌≡◌, ℕ, ◌<◌, suc, Bool, true, false, cond, List, [], ◌∷◌, ◌++◌, length, take, drop, get_or, set, Option, Some, None, refl, sym, ap, ◌∙◌, subst, arith, drop-cons}
use Rattle.std.specs.Prelude.{insert, Contains}
use Rattle.std.proofs.lemmas.List.{take-append-drop, get_or-set_same, set_split}
use Rattle.std.proofs.lemmas.List.Edits.{length-insert}
use Rattle.std.proofs.lemmas.List.Elements.{recursion_from_All}
use Rattle.std.specs.declared.cmp.Ordering.{Ordering}
use Rattle.std.specs.declared.cmp.Ordering.TheVariants.{Less}
use Rattle.std.specs.Ordering.{eq_by_cmp}
use Rattle.am_version_order.specs.Versions.{Version, is_below}
use Rattle.am_version_order.proofs.Ranks.{below_itself}
use Rattle.am_merge.specs.Maps.{greater_of, IsMap, at, IsJoin, replaces, is_above}
use Rattle.am_merge.specs.Places.{IsPlaceOf, IsGapFor}
use Rattle.am_merge.specs.Takings.{IsPut}
use Rattle.am_merge.proofs.Keys.{IsKeyOrder, IsBetween, IsMap-insert, IsMap-without, at-between, at-gap, at-itself, same_key}

-- a list cut at one of its elements
pub cut_at : {X : Type 0} (xs : List X) (i : ℕ) (w : X) → i < length xs → w ≡ get_or xs i w → xs ≡ take i xs ++ w ∷ drop (suc i) xs
cut_at xs i w within is = sym (take-append-drop i xs) ∙ ap (λ ys. take i xs ++ ys) (drop-cons xs i w within) ∙ ap (λ x. take i xs ++ x ∷ drop (suc i) xs) (sym is)

module _ {K X : Type 0} (seen : X → Version K) where
  pub greater_of-none : (o : Option X) → greater_of seen o None ≡ o
  greater_of-none None = refl
  greater_of-none (Some v) = refl

  -- what a map has at a key once v was put over w, or was not, or was put in a gap
  over_one : (e : Bool) (v w : X) (o : Option X) → is_below (seen w) (seen v) ≡ true → cond e (Some v) o ≡ greater_of seen (cond e (Some w) o) (cond e (Some v) None)
  over_one true v w o less = rw less refl
  over_one false v w o less = sym (greater_of-none o)

  over_none : (e : Bool) (v w : X) (o : Option X) → is_below (seen w) (seen v) ≡ false → cond e (Some w) o ≡ greater_of seen (cond e (Some w) o) (cond e (Some v) None)
  over_none true v w o not_less = rw not_less refl
  over_none false v w o not_less = sym (greater_of-none o)

  pub in_gap : (e : Bool) (v : X) (o : Option X) → (e ≡ true → o ≡ None) → cond e (Some v) o ≡ greater_of seen o (cond e (Some v) None)
  in_gap true v o none = rw (none refl) refl
  in_gap false v o none = sym (greater_of-none o)

  module _ (cmp : K → K → Ordering) (keys : IsKeyOrder cmp) where
    put_new : (map : List X) (v : X) (new : List X) → IsMap seen cmp new → IsJoin seen cmp map (v ∷ []) new → replaces seen cmp map v ≡ true → (new ≡ map → ⊥) → IsPut seen cmp map v new
    put_new map v new is_map joined replaced differs = record { order = is_map; joined = joined; changed = (λ _. differs, λ _. replaced); kept = λ no. cc }

    put_nothing : (map : List X) (v : X) → IsMap seen cmp map → IsJoin seen cmp map (v ∷ []) map → replaces seen cmp map v ≡ false → IsPut seen cmp map v map
    put_nothing map v is_map joined none = record { order = is_map; joined = joined; changed = (λ yes. absurd cc, λ differs. absurd (differs refl)); kept = λ _. refl }

    -- v goes where w is, which has its key
    module _ (map : List X) (i : ℕ) (v w : X) (is_map : IsMap seen cmp map) (within : i < length map) (is : w ≡ get_or map i w) (key : (seen w).key ≡ (seen v).key) where
      around : IsMap seen cmp (take i map ++ drop (suc i) map) × IsBetween seen cmp (seen w).key (take i map) (drop (suc i) map)
      around = IsMap-without seen cmp keys w (take i map) (drop (suc i) map) (subst (IsMap seen cmp) (cut_at map i w within is) is_map)

      around_v : IsBetween seen cmp (seen v).key (take i map) (drop (suc i) map)
      around_v = subst (λ k. IsBetween seen cmp k (take i map) (drop (suc i) map)) key around.1

      at_cut : (k : K) → at seen cmp map k ≡ cond (eq_by_cmp cmp (seen v).key k) (Some w) (at seen cmp (take i map ++ drop (suc i) map) k)
      at_cut k =
          ap (λ xs. at seen cmp xs k) (cut_at map i w within is)
          ∙ at-between seen cmp keys w (take i map) (drop (suc i) map) k around.1.below
          ∙ ap (λ j. cond (eq_by_cmp cmp j k) (Some w) (at seen cmp (take i map ++ drop (suc i) map) k)) key

      at_place : at seen cmp map (seen w).key ≡ Some w
      at_place = ap (λ xs. at seen cmp xs (seen w).key) (cut_at map i w within is) ∙ at-itself seen cmp keys w (take i map) (drop (suc i) map) around.1.below

      replaced_is : replaces seen cmp map v ≡ is_below (seen w) (seen v)
      replaced_is = ap (λ k. is_above seen (at seen cmp map k) v) (sym key) ∙ ap (λ o. is_above seen o v) at_place

      same_as_held : set map i v ≡ map → v ≡ w
      same_as_held same = sym (get_or-set_same map i v w within) ∙ ap (λ xs. get_or xs i w) same ∙ sym is

      put_over : is_below (seen w) (seen v) ≡ true → IsPut seen cmp map v (set map i v)
      put_over less =
          put_new map v (set map i v)
          (rw (set_split map i v within) (IsMap-insert seen cmp keys v (take i map) (drop (suc i) map) around.0 around_v))
          (λ k. ap (λ xs. at seen cmp xs k) (set_split map i v within)
          ∙ at-between seen cmp keys v (take i map) (drop (suc i) map) k around_v.below
          ∙ over_one (eq_by_cmp cmp (seen v).key k) v w (at seen cmp (take i map ++ drop (suc i) map) k) less
          ∙ ap (λ o. greater_of seen o (at seen cmp (v ∷ []) k)) (sym (at_cut k)))
          (replaced_is ∙ less)
          (λ same. let never : is_below (seen w) (seen w) ≡ true = subst (λ u. is_below (seen w) (seen u) ≡ true) (same_as_held same) less in let itself = below_itself (seen w) in cc)

      pub place_over : is_below (seen w) (seen v) ≡ true → IsPut seen cmp map v (set map i v) × (replaces seen cmp map v ≡ true)
      place_over less = (put_over less, replaced_is ∙ less)

      pub place_nowhere : is_below (seen w) (seen v) ≡ false → IsPut seen cmp map v map × (replaces seen cmp map v ≡ false)
      place_nowhere not_less = (
        put_nothing map v is_map
            (λ k. at_cut k
            ∙ over_none (eq_by_cmp cmp (seen v).key k) v w (at seen cmp (take i map ++ drop (suc i) map) k) not_less
            ∙ ap (λ o. greater_of seen o (at seen cmp (v ∷ []) k)) (sym (at_cut k)))
            (replaced_is ∙ not_less),
        replaced_is ∙ not_less,
      )

    -- a key is between the two parts of a map that its gap makes
    between_parts : (map : List X) (k : K) (i : ℕ) → IsGapFor seen cmp map k i → IsBetween seen cmp k (take i map) (drop i map)
    between_parts map k i gap =
        record {
          below = recursion_from_All (λ w. cmp (seen w).key k ≡ Less) (take i map) gap.below;
          above = recursion_from_All (λ w. cmp k (seen w).key ≡ Less) (drop i map) gap.above;
        }

    pub at_absent : (map : List X) (k : K) (i : ℕ) → IsGapFor seen cmp map k i → at seen cmp map k ≡ None
    at_absent map k i gap = ap (λ xs. at seen cmp xs k) (sym (take-append-drop i map)) ∙ at-gap seen cmp keys k (take i map) (drop i map) (between_parts map k i gap)

    pub at_found : (map : List X) (k : K) (i : ℕ) (w : X) → IsMap seen cmp map → IsPlaceOf seen cmp map k i → w ≡ get_or map i w → at seen cmp map k ≡ Some w
    at_found map k i w is_map place is =
        let key : (seen w).key ≡ k = ap (λ x. (seen x).key) is ∙ place.here w in
        ap (λ j. at seen cmp map j) (sym key) ∙ at_place map i w w is_map place.in_range is refl

    -- a map has each of its versions at that version's key
    pub at-member : (map : List X) (w : X) → IsMap seen cmp map → Contains map w → at seen cmp map (seen w).key ≡ Some w
    at-member map w is_map member = at_place map member.0 w w is_map member.1 (sym member.2) refl

    -- v is the first of its key
    module _ (map : List X) (i : ℕ) (v : X) (is_map : IsMap seen cmp map) (gap : IsGapFor seen cmp map (seen v).key i) where
      replaced_gap : replaces seen cmp map v ≡ true
      replaced_gap = ap (λ o. is_above seen o v) (at_absent map (seen v).key i gap)

      put_between : IsPut seen cmp map v (insert map i v)
      put_between =
          let between = between_parts map (seen v).key i gap in
          put_new map v (insert map i v)
          (IsMap-insert seen cmp keys v (take i map) (drop i map) (subst (IsMap seen cmp) (sym (take-append-drop i map)) is_map) between)
          (λ k. at-between seen cmp keys v (take i map) (drop i map) k between.below
          ∙ ap (λ xs. cond (eq_by_cmp cmp (seen v).key k) (Some v) (at seen cmp xs k)) (take-append-drop i map)
          ∙ in_gap (eq_by_cmp cmp (seen v).key k) v (at seen cmp map k) (λ e. ap (λ j. at seen cmp map j) (sym (same_key seen cmp keys (seen v).key k e)) ∙ at_absent map (seen v).key i gap))
          replaced_gap
          (λ same. let longer = length-insert map i v gap.in_range in let as_long = ap length same in absurd (omega arith))

      pub place_between : IsPut seen cmp map v (insert map i v) × (replaces seen cmp map v ≡ true)
      place_between = (put_between, replaced_gap)
