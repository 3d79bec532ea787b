-- Silences in the order of their ids, each once.
use Rattle.std.proofs.Common.{◌≡◌, ℕ, Bool, true, false, cond, List, [], ◌∷◌, map, Option, Some, None, Bor, Contains, Any, IsPermutation, refl, sym, ap, ap₂, ◌∙◌}
use Rattle.std.specs.List.{AllByRecursion, dedup, dedup_from}
use Rattle.std.specs.List.Sorted.{IsStrictlySortedBy}
use Rattle.std.specs.Ordering.{on, nat_cmp}
use Rattle.std.specs.declared.cmp.Ordering.{Ordering}
use Rattle.std.specs.declared.cmp.Ordering.TheVariants.{Less}
use Rattle.std.specs.Cmp.Lexicographic.{slice_cmp, nat_list_cmp_total, on_texts_equal}
use Rattle.std.specs.Prelude.{bytes_eq}
use Rattle.std.proofs.lemmas.List.Kept.{Any-dedup, Contains-from_dedup}
use Rattle.std.proofs.lemmas.List.Sorted.{Contains-permutation, IsPermutation-map, IsPermutation-sym}
use Rattle.std.proofs.lemmas.Map.Lookups.{exact_bytes}
use Rattle.std.proofs.lemmas.Slice.Eq.{bytes_eq-Decides}
use Rattle.am_merge.specs.Maps.{IsMap, at}
use Rattle.am_merge.proofs.Keys.{IsKeyOrder, key_order, at-Contains}
use Rattle.am_merge.proofs.Puts.{at-member}
use Rattle.am_merge.proofs.Joins.{same_map}
use Rattle.am_silence.specs.Mesh.{Mesh, mesh_version}

module _ {X Y : Type 0} (f : X → Y) (same : Y → Y → Bool) where
  map-cond : (b : Bool) (xs ys : List X) → map f (cond b xs ys) ≡ cond b (map f xs) (map f ys)
  map-cond true xs ys = refl
  map-cond false xs ys = refl

  dedup_from-map : (k : X) (xs : List X) → map f (dedup_from (λ a b. same (f a) (f b)) k xs) ≡ dedup_from same (f k) (map f xs)
  dedup_from-map k [] = refl
  dedup_from-map k (x ∷ xs) =
      map-cond (same (f x) (f k)) (dedup_from (λ a b. same (f a) (f b)) k xs) (k ∷ dedup_from (λ a b. same (f a) (f b)) x xs)
      ∙ ap₂ (λ us vs. cond (same (f x) (f k)) us (f k ∷ vs)) (dedup_from-map k xs) (dedup_from-map x xs)

  dedup-map : (xs : List X) → map f (dedup (λ a b. same (f a) (f b)) xs) ≡ dedup same (map f xs)
  dedup-map [] = refl
  dedup-map (x ∷ xs) = dedup_from-map x xs

abbrev pub Silence : Type 0
Silence = Bor Mesh

abbrev pub silences : List Silence → List Mesh
silences ms = map (λ m. m.now) ms

abbrev pub by_id : Silence → Silence → Ordering
by_id = on (λ m. m.now.silence.id) (slice_cmp nat_cmp)

abbrev same_id : Mesh → Mesh → Bool
same_id = on (λ m. m.silence.id) bytes_eq

abbrev pub have_one_id : Silence → Silence → Bool
have_one_id a b = same_id a.now b.now

above : (m : Silence) (ms : List Silence) → AllByRecursion (λ n. by_id m n ≡ Less) ms → AllByRecursion (λ w. slice_cmp nat_cmp (mesh_version m.now).key (mesh_version w).key ≡ Less) (silences ms)
above m [] all = tt
above m (n ∷ ms) all = (all.0, above m ms all.1)

pub IsMap-rising : (ms : List Silence) → IsStrictlySortedBy by_id ms → IsMap mesh_version (slice_cmp nat_cmp) (silences ms)
unfolding IsStrictlySortedBy
IsMap-rising [] rise = tt
IsMap-rising (m ∷ ms) rise = (above m ms rise.0, IsMap-rising ms rise.1)

-- silences in another order, each once
module _ (old sorted : List Silence) (moved : IsPermutation old sorted) where
  pub ordered_same : (m : Mesh) → Contains (silences (dedup have_one_id sorted)) m → Contains (silences old) m
  ordered_same m c =
      let there : Contains (silences sorted) m = Contains-from_dedup same_id (silences sorted) m (rw (dedup-map (λ (s : Silence). s.now) same_id sorted) at c) in
      Contains-permutation (silences sorted) (silences old) m (IsPermutation-sym (silences old) (silences sorted) (IsPermutation-map (λ (s : Silence). s.now) old sorted moved)) there

  pub ordered_kept : (m : Mesh) → Contains (silences old) m → Any (λ other. other.silence.id ≡ m.silence.id) (silences (dedup have_one_id sorted))
  ordered_kept m c =
      let there = Contains-permutation (silences old) (silences sorted) m (IsPermutation-map (λ (s : Silence). s.now) old sorted moved) c in
      let found = Any-dedup (on_texts_equal (λ (x : Mesh). x.silence.id)) (silences sorted) m there in
      let one : Any (λ other. other.silence.id ≡ m.silence.id) (dedup same_id (silences sorted)) = (found.0, found.1, found.2, found.3, sym ((bytes_eq-Decides m.silence.id found.1.silence.id).0 found.4)) in
      rw (dedup-map (λ (s : Silence). s.now) same_id sorted) one

-- maps with the same silences are one
id_order : IsKeyOrder (slice_cmp nat_cmp)
id_order = key_order nat_list_cmp_total exact_bytes

module _ (xs ys : List Mesh) (first : IsMap mesh_version (slice_cmp nat_cmp) xs) (second : IsMap mesh_version (slice_cmp nat_cmp) ys) where
  module _ (there : (m : Mesh) → Contains xs m → Contains ys m) (here : (m : Mesh) → Contains ys m → Contains xs m) where
    alike : (k : List ℕ) (a b : Option Mesh) → at mesh_version (slice_cmp nat_cmp) xs k ≡ a → at mesh_version (slice_cmp nat_cmp) ys k ≡ b → a ≡ b
    alike k (Some v) b e f =
        let found = at-Contains mesh_version (slice_cmp nat_cmp) id_order xs k v e in
        let member = at-member mesh_version (slice_cmp nat_cmp) id_order ys v second (there v found.1) in
        sym (sym f ∙ ap (λ j. at mesh_version (slice_cmp nat_cmp) ys j) (sym found.0) ∙ member)
    alike k None (Some w) e f =
        let found = at-Contains mesh_version (slice_cmp nat_cmp) id_order ys k w f in
        let member = at-member mesh_version (slice_cmp nat_cmp) id_order xs w first (here w found.1) in
        sym e ∙ ap (λ j. at mesh_version (slice_cmp nat_cmp) xs j) (sym found.0) ∙ member
    alike k None None e f = refl

    pub same_silences : xs ≡ ys
    same_silences = same_map mesh_version (slice_cmp nat_cmp) id_order xs ys first second (λ k. alike k _ _ refl refl)

-- two silences of a map with one id are one
pub one_of_an_id : (map_of_silences : List Mesh) (m n : Mesh) → IsMap mesh_version (slice_cmp nat_cmp) map_of_silences → Contains map_of_silences m → Contains map_of_silences n → m.silence.id ≡ n.silence.id → m ≡ n
one_of_an_id held m n is_map one other same =
    let first = at-member mesh_version (slice_cmp nat_cmp) id_order held m is_map one in
    let second = at-member mesh_version (slice_cmp nat_cmp) id_order held n is_map other in
    let both = ap (λ k. at mesh_version (slice_cmp nat_cmp) held k) same in
    cc
