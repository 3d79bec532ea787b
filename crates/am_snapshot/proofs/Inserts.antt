-- A version of a new key, put into a map: the map has one version more.
use Rattle.std.proofs.Common.{◌≡◌, ◌≢◌, cond, List, [], ◌∷◌, ◌++◌, get_or, Some, None, refl, sym, ap, subst, ◌∙◌, arith}
use Rattle.std.specs.Prelude.{Contains, IsPermutation}
use Rattle.std.proofs.lemmas.List.{get_or_default}
use Rattle.std.proofs.lemmas.List.Quantifiers.{all_pairs_push}
use Rattle.std.proofs.lemmas.List.Sorted.{IsPermutation-trans, IsPermutation-sym, IsPermutation-cons, IsPermutation-middle, IsPermutation-append_comm, Contains-permutation}
use Rattle.std.specs.declared.cmp.Ordering.{Ordering}
use Rattle.std.specs.declared.cmp.Ordering.TheVariants.{Less, Equal, Greater}
use Rattle.std.specs.Ordering.{eq_by_cmp, is_eq, ordering_reverse}
use Rattle.am_version_order.specs.Versions.{Version}
use Rattle.am_merge.specs.Maps.{IsMap, IsJoin, at}
use Rattle.am_merge.proofs.Keys.{IsKeyOrder, IsBetween, IsMap-insert, at-between, at-Contains, below_further, same_key}
use Rattle.am_merge.proofs.Puts.{in_gap, at-member}
use Rattle.am_merge.proofs.Joins.{same_map}
use Rattle.am_snapshot.specs.Loads.{AreDistinct}

pub distinct_none : {K X : Type 0} (seen : X → Version K) → AreDistinct seen []
distinct_none seen i j d less within = absurd (omega (arith, within))

module _ {K X : Type 0} (seen : X → Version K) (cmp : K → K → Ordering) (keys : IsKeyOrder cmp) where
  -- the two parts of a map round a key that it hasn't
  record HasGap (key : K) (map : List X) : Type 0 where
    below : List X
    above : List X
    parts : map ≡ below ++ above
    between : IsBetween seen cmp key below above

  gap_after : (key : K) (x : X) (rest : List X) → cmp (seen x).key key ≡ Less → HasGap key rest → HasGap key (x ∷ rest)
  gap_after key x rest less gap =
      record {
        below = x ∷ gap.below;
        above = gap.above;
        parts = ap (λ (l : List X). x ∷ l) gap.parts;
        between = record { below = (less, gap.between.below); above = gap.between.above };
      }

  gap_by : (key : K) (x : X) (rest : List X) → IsMap seen cmp (x ∷ rest) → (at seen cmp rest key ≡ None → HasGap key rest)
      → (o : Ordering) → cmp (seen x).key key ≡ o → cond (is_eq o) (Some x) (at seen cmp rest key) ≡ None → HasGap key (x ∷ rest)
  gap_by key x rest map further Less e none = gap_after key x rest e (further none)
  gap_by key x rest map further Equal e none = absurd cc
  gap_by key x rest map further Greater e none =
      let less : cmp key (seen x).key ≡ Less = keys.total.antisymm key (seen x).key ∙ ap ordering_reverse e in
      record { below = []; above = x ∷ rest; parts = refl; between = record { below = tt; above = (less, below_further seen cmp keys key (seen x).key rest less map.0) } }

  has_gap : (key : K) (map : List X) → IsMap seen cmp map → at seen cmp map key ≡ None → HasGap key map
  has_gap key [] map none = record { below = []; above = []; parts = refl; between = record { below = tt; above = tt } }
  has_gap key (x ∷ rest) map none = gap_by key x rest map (has_gap key rest map.1) (cmp (seen x).key key) refl none

  module _ (map new : List X) (v : X) (is_map : IsMap seen cmp map) (is_new : IsMap seen cmp new) (joined : IsJoin seen cmp map (v ∷ []) new) (none : at seen cmp map (seen v).key ≡ None) where
    gap : HasGap (seen v).key map
    gap = has_gap (seen v).key map is_map none

    at-inserted : (k : K) → at seen cmp new k ≡ at seen cmp (gap.below ++ v ∷ gap.above) k
    at-inserted k =
        joined k
        ∙ sym (in_gap seen (eq_by_cmp cmp (seen v).key k) v (at seen cmp map k) (λ e. ap (λ (j : K). at seen cmp map j) (sym (same_key seen cmp keys (seen v).key k e)) ∙ none))
        ∙ ap (λ (l : List X). cond (eq_by_cmp cmp (seen v).key k) (Some v) (at seen cmp l k)) gap.parts
        ∙ sym (at-between seen cmp keys v gap.below gap.above k gap.between.below)

    new_is : new ≡ gap.below ++ v ∷ gap.above
    new_is = same_map seen cmp keys new (gap.below ++ v ∷ gap.above) is_new (IsMap-insert seen cmp keys v gap.below gap.above (subst (λ (l : List X). IsMap seen cmp l) gap.parts is_map) gap.between) at-inserted

    one_more : IsPermutation (v ∷ map) new
    one_more =
        let middle = IsPermutation-sym _ _ (IsPermutation-middle gap.below v gap.above) in
        let front = subst (λ (l : List X). IsPermutation (v ∷ l) (gap.below ++ v ∷ gap.above)) (sym gap.parts) middle in
        subst (λ (l : List X). IsPermutation (v ∷ map) l) (sym new_is) front

    module _ (versions : List X) (members : IsPermutation versions map) where
      pub members_more : IsPermutation (versions ++ v ∷ []) new
      members_more =
          IsPermutation-trans _ _ _ (IsPermutation-append_comm versions (v ∷ []))
          (IsPermutation-trans _ _ _ (IsPermutation-cons v versions map members) one_more)

      other_key : (w : X) → Contains versions w → (seen w).key ≢ (seen v).key
      other_key w member same =
          let found = at-member seen cmp keys map w is_map (Contains-permutation versions map w members member) in
          let there = ap (λ (k : K). at seen cmp map k) same in
          cc

      pub distinct_more : AreDistinct seen versions → AreDistinct seen (versions ++ v ∷ [])
      distinct_more distinct =
          all_pairs_push (λ a b. (seen a).key ≢ (seen b).key) versions v distinct
          (λ k d within. other_key (get_or versions k d) (k, within, sym (get_or_default versions k d (get_or versions k d) within)))

  -- a version that the map has is one of those that it was made of
  pub earlier : (versions map : List X) (key : K) (w : X) → IsPermutation versions map → at seen cmp map key ≡ Some w → ((seen w).key ≡ key) × Contains versions w
  earlier versions map key w members found =
      let has = at-Contains seen cmp keys map key w found in
      (has.0, Contains-permutation map versions w (IsPermutation-sym _ _ members) has.1)
