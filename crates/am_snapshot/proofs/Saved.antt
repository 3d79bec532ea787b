-- A map that was saved is read as itself.
use Rattle.std.proofs.Common.{◌≡◌, ◌≢◌, ℕ, List, [], ◌∷◌, ◌++◌, map, Option, Some, None, Result, Ok, refl, sym, ap, subst, ◌∙◌, arith}
use Rattle.std.specs.Prelude.{IsPermutation}
use Rattle.std.specs.declared.cmp.Ordering.{Ordering}
use Rattle.std.specs.declared.cmp.Ordering.TheVariants.{Less}
use Rattle.std.proofs.lemmas.Cmp.{tied_itself}
use Rattle.std.proofs.lemmas.List.Elements.{All-contains, All-from_recursion}
use Rattle.std.proofs.lemmas.List.Kept.{AllPairs-cons}
use Rattle.std.proofs.lemmas.List.Sorted.{IsPermutation-sym, IsPermutation-refl, Contains-permutation}
use Rattle.am_version_order.specs.Versions.{Version}
use Rattle.am_wire.specs.declared.error.WireError.{WireError}
use Rattle.am_wire.specs.Inputs.{sound, AreMessages}
use Rattle.am_merge.specs.Maps.{IsMap, at}
use Rattle.am_merge.proofs.Keys.{IsKeyOrder, IsMap-without, all_weaker, at-Contains}
use Rattle.am_merge.proofs.Puts.{at-member}
use Rattle.am_merge.proofs.Joins.{same_map}
use Rattle.am_snapshot.specs.Encodings.{row_encoding}
use Rattle.am_snapshot.proofs.ReadAgain.{IsReadBack, versions_read}
use Rattle.am_snapshot.specs.Loads.{AreDistinct, IsLoaded, StopsLoadWithin, RepeatsKey, IsOutside}
use Rattle.am_snapshot.specs.Saving.{IsSavableWithin}
use Rattle.am_snapshot.specs.declared.error.SnapshotError.{SnapshotError}
use Rattle.am_snapshot.specs.declared.error.SnapshotError.TheVariants.{Read, Write, Wire, DuplicateKey, TooLarge, Memory}
use Rattle.am_snapshot.proofs.Inserts.{distinct_none}
use Rattle.am_snapshot.proofs.OneFault.{no_fault, head_is, tail_is}

module _ {X : Type 0} (reads : ℕ → List ℕ → Result X WireError) where
  same_messages : (versions others : List X) → map sound versions ≡ map sound others → versions ≡ others
  same_messages [] [] same = refl
  same_messages [] (w ∷ others) same = absurd cc
  same_messages (v ∷ versions) [] same = absurd cc
  same_messages (v ∷ versions) (w ∷ others) same =
      let first = head_is reads v w (map sound versions) (map sound others) same in
      let rest = same_messages versions others (tail_is reads v w (map sound versions) (map sound others) same) in
      cc

  -- the messages behind some others
  messages_behind : (before all : List X) (v : X) (others : List (Result X WireError)) → map sound all ≡ map sound before ++ Ok v ∷ others → (rest : List X) × (all ≡ before ++ v ∷ rest)
  messages_behind [] [] v others same = absurd cc
  messages_behind [] (w ∷ all) v others same = (all, ap (λ (x : X). x ∷ all) (head_is reads w v (map sound all) others same))
  messages_behind (x ∷ before) [] v others same = absurd cc
  messages_behind (x ∷ before) (w ∷ all) v others same =
      let first = head_is reads w x (map sound all) (map sound before ++ Ok v ∷ others) same in
      let (rest, is) = messages_behind before all v others (tail_is reads w x (map sound all) (map sound before ++ Ok v ∷ others) same) in
      (rest, ap (λ (y : X). y ∷ all) first ∙ ap (λ (ys : List X). x ∷ ys) is)

module _ {K X : Type 0} (seen : X → Version K) (cmp : K → K → Ordering) (keys : IsKeyOrder cmp) where
  less_apart : (j k : K) → cmp j k ≡ Less → j ≢ k
  less_apart j k less same = let tied = tied_itself keys.total k in absurd cc

  distinct_map : (versions : List X) → IsMap seen cmp versions → AreDistinct seen versions
  distinct_map [] order = distinct_none seen
  distinct_map (v ∷ versions) order =
      AllPairs-cons (λ v w. (seen v).key ≢ (seen w).key) v versions
      (All-from_recursion (λ w. (seen v).key ≢ (seen w).key) versions (all_weaker (λ w. cmp (seen v).key (seen w).key ≡ Less) (λ w. (seen v).key ≢ (seen w).key) (λ w less. less_apart (seen v).key (seen w).key less) versions order.0))
      (distinct_map versions order.1)

  -- two maps of the same versions are one
  module _ (xs ys : List X) (is_xs : IsMap seen cmp xs) (is_ys : IsMap seen cmp ys) (moved : IsPermutation xs ys) where
    alike : (k : K) (o p : Option X) → at seen cmp xs k ≡ o → at seen cmp ys k ≡ p → at seen cmp xs k ≡ at seen cmp ys k
    alike k (Some w) p here there =
        let has = at-Contains seen cmp keys xs k w here in
        let found = at-member seen cmp keys ys w is_ys (Contains-permutation xs ys w moved has.1) in
        here ∙ sym found ∙ ap (λ (j : K). at seen cmp ys j) has.0
    alike k None (Some w) here there =
        let has = at-Contains seen cmp keys ys k w there in
        let found = at-member seen cmp keys xs w is_xs (Contains-permutation ys xs w (IsPermutation-sym xs ys moved) has.1) in
        ap (λ (j : K). at seen cmp xs j) (sym has.0) ∙ found ∙ sym there
    alike k None None here there = here ∙ sym there

    same_versions : xs ≡ ys
    same_versions = same_map seen cmp keys xs ys is_xs is_ys (λ k. alike k (at seen cmp xs k) (at seen cmp ys k) refl refl)

  module _ (reads : ℕ → List ℕ → Result X WireError) (is_value : X → Type 0) (limit : ℕ) (back : (v : X) → is_value v → IsReadBack seen reads v) (versions : List X) (savable : IsSavableWithin seen cmp is_value limit versions) where
    saved_read : AreMessages reads (row_encoding seen versions) versions
    saved_read = versions_read seen reads versions 0 (λ k d within. back _ (savable.values k d within)) savable.fits.short

    pub saved_loaded : IsLoaded seen reads (row_encoding seen versions) versions
    saved_loaded = (versions, saved_read, distinct_map versions savable.order, IsPermutation-refl versions)

    pub loaded_saved : (held : List X) → IsMap seen cmp held → IsLoaded seen reads (row_encoding seen versions) held → held ≡ versions
    loaded_saved held order (others, all, distinct, members) =
        let same = same_messages reads others versions (sym all ∙ saved_read) in
        sym (same_versions versions held savable.order order (subst (λ (l : List X). IsPermutation l held) same members))

    never_twice : (left : Option (List ℕ)) → RepeatsKey seen reads limit (row_encoding seen versions) left → ⊥
    never_twice left twice =
        let (rest, is) = messages_behind reads twice.versions versions twice.version twice.others (sym saved_read ∙ twice.messages) in
        let below = (IsMap-without seen cmp keys twice.version twice.versions rest (subst (λ (l : List X). IsMap seen cmp l) is savable.order)).1.below in
        let P : X → Type 0 = λ v. cmp (seen v).key (seen twice.version).key ≡ Less in
        let less = All-contains P twice.versions twice.earlier (All-from_recursion P twice.versions below) twice.among in
        less_apart (seen twice.earlier).key (seen twice.version).key less twice.same_key

    pub saved_sound : (left : Option (List ℕ)) (e : SnapshotError) → StopsLoadWithin seen reads limit (row_encoding seen versions) left e → IsOutside e
    saved_sound left (Read at) stop = tt
    saved_sound left Memory stop = tt
    saved_sound left (Write k) stop = stop
    saved_sound left (Wire e) (others, stop, distinct) = no_fault reads others versions e (sym stop.0 ∙ saved_read)
    saved_sound left TooLarge (others, stop, distinct) = absurd (omega (arith, stop.more, savable.fits.size))
    saved_sound left DuplicateKey twice = never_twice left twice
