-- Versions in the order of a map are loaded.
use Rattle.std.proofs.Common.{◌≡◌, ℕ, zero, suc, Bool, true, false, List, [], ◌∷◌, length, get_or, Result, inl, inr, refl, sym, ap, subst, ◌∙◌, arith}
use Rattle.std.specs.Prelude.{Contains, IsPermutation}
use Rattle.std.specs.List.{IsDistinct, remove}
use Rattle.std.proofs.lemmas.List.Sorted.{IsPermutation-refl, IsPermutation-sym, IsPermutation-trans, IsPermutation-cons, IsPermutation-remove, Contains-permutation, length_permutation}
use Rattle.std.proofs.lemmas.Map.Keys.{IsDistinct-cons, IsDistinct-IsPermutation, IsDistinct-from_apart, apart_from_distinct}
use Rattle.std.specs.declared.cmp.Ordering.{Ordering}
use Rattle.std.specs.declared.cmp.Ordering.TheVariants.{Less, Equal, Greater}
use Rattle.std.specs.Ordering.{eq_by_cmp, is_eq, ordering_reverse}
use Rattle.am_version_order.specs.Versions.{Version}
use Rattle.am_wire.specs.declared.error.WireError.{WireError}
use Rattle.am_wire.specs.Inputs.{AreMessages}
use Rattle.am_merge.specs.Maps.{IsMap}
use Rattle.am_merge.specs.Views.{HoldsBest}
use Rattle.am_merge.proofs.Keys.{IsKeyOrder, all_weaker, eq_itself}
use Rattle.am_merge.proofs.Indexes.{Contains-head, Contains-tail, Contains-cases}
use Rattle.am_snapshot.specs.Loads.{AreDistinct, IsLoaded}

module _ {K X : Type 0} (seen : X → Version K) (cmp : K → K → Ordering) (keys : IsKeyOrder cmp) where
  abbrev alike : X → X → Bool
  alike v w = eq_by_cmp cmp (seen v).key (seen w).key

  back : (o : Ordering) → is_eq o ≡ is_eq (ordering_reverse o)
  back Less = refl
  back Equal = refl
  back Greater = refl

  flips : (v w : X) → alike v w ≡ alike w v
  flips v w = back (cmp (seen v).key (seen w).key) ∙ ap is_eq (sym (keys.total.antisymm (seen w).key (seen v).key))

  distinct_map : (held : List X) → IsMap seen cmp held → IsDistinct alike held
  distinct_map [] order = IsDistinct-from_apart alike [] (λ i j d less within. absurd (omega (arith, within)))
  distinct_map (v ∷ rest) order =
      IsDistinct-cons alike v rest (all_weaker (λ w. cmp (seen v).key (seen w).key ≡ Less) (λ w. alike v w ≡ false) (λ w less. ap is_eq less) rest order.0) (distinct_map rest order.1)

  are_distinct : (versions : List X) → IsDistinct alike versions → AreDistinct seen versions
  are_distinct versions distinct i j d less within same =
      let no = apart_from_distinct alike versions i j d distinct less within in
      let yes = eq_itself seen cmp keys (seen (get_or versions i d)).key in
      let both = subst (λ (k : K). eq_by_cmp cmp (seen (get_or versions i d)).key k ≡ true) same yes in
      absurd cc

  -- versions in another order that is that of a map are loaded
  pub loaded_of : (reads : ℕ → List ℕ → Result X WireError) (row : List ℕ) (versions held : List X) → AreMessages reads row versions → IsMap seen cmp held → IsPermutation versions held
      → IsLoaded seen reads row held
  loaded_of reads row versions held are order moved =
      let apart = distinct_map held order in
      (versions, are, are_distinct versions (IsDistinct-IsPermutation alike flips held versions (IsPermutation-sym versions held moved) apart), moved)
