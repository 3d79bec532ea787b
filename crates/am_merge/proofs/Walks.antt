-- The walk from the front of a bucket gives the versions of the bucket, in the order of their keys.
use Rattle.std.proofs.Common.{◌≡◌, ℕ, zero, suc, Bool, true, false, cond, List, [], ◌∷◌, ◌++◌, take, drop, Option, Some, None, refl, sym, ap, ◌∙◌, subst, arith, inl, inr, Contains}
use Rattle.std.specs.Prelude.{filter, bytes_eq}
use Rattle.std.specs.List.{AllByRecursion}
use Rattle.std.proofs.lemmas.List.{take-append-drop}
use Rattle.std.proofs.lemmas.List.Elements.{All-contains, All-contains_itself, All-filter, All-from_recursion, recursion_from_All, filter-append, filter_passes}
use Rattle.std.proofs.lemmas.List.Sums.{take_while-cons}
use Rattle.std.proofs.lemmas.Slice.Eq.{bytes_eq-Decides}
use Rattle.std.specs.declared.cmp.Ordering.{Ordering}
use Rattle.std.specs.declared.cmp.Ordering.TheVariants.{Less, Equal, Greater}
use Rattle.std.specs.Ordering.{ordering_then, ordering_reverse}
use Rattle.std.proofs.lemmas.Cmp.{tied_itself}
use Rattle.am_version_order.specs.Versions.{Version}
use Rattle.am_merge.specs.Maps.{IsMap, at, in_bucket}
use Rattle.am_merge.specs.Places.{IsGapFor}
use Rattle.am_merge.specs.Indexes.{filed}
use Rattle.am_merge.specs.Entries.{versions_of}
use Rattle.am_merge.specs.Buckets.{bucket_slot, bytes_cmp, bucket_cmp, by_bucket, bucket_entry, run_of}
use Rattle.am_merge.specs.Stores.{IsKeyIndex, IsBucketIndex}
use Rattle.am_merge.specs.declared.entry.KeyEntry.{KeyEntry}
use Rattle.am_merge.specs.declared.entry.BucketEntry.{BucketEntry}
use Rattle.am_merge.proofs.Keys.{IsKeyOrder, AreAbove, at-Contains}
use Rattle.am_merge.proofs.Puts.{at-member}
use Rattle.am_merge.proofs.Joins.{same_map}
use Rattle.am_merge.proofs.Sweeps.{IsMap-filter}
use Rattle.am_merge.proofs.Firsts.{each_version, version_inside}
use Rattle.am_merge.proofs.Indexes as indexes
use Rattle.am_merge.proofs.Buckets.{bytes_exact, bytes_total, slot_entry}

-- what is in a list and passes a test is in what passes
module _ {X : Type 0} (test : X → Bool) where
  kept_by : (x y : X) (ys : List X) (b : Bool) → test y ≡ b → test x ≡ true → (Contains ys x → Contains (filter test ys) x) → Contains (y ∷ ys) x → Contains (cond b (y ∷ filter test ys) (filter test ys)) x
  kept_by x y ys true e passes rest inside = elim (indexes.Contains-cases y x ys inside) [
    | inl is ↦ subst (λ z. Contains (y ∷ filter test ys) z) is (indexes.Contains-head y (filter test ys))
    | inr later ↦ indexes.Contains-tail y x (filter test ys) (rest later)
  ]
  kept_by x y ys false e passes rest inside = elim (indexes.Contains-cases y x ys inside) [
    | inl is ↦ let never : test y ≡ true = ap test is ∙ passes in absurd cc
    | inr later ↦ rest later
  ]

  Contains-kept : (x : X) (xs : List X) → test x ≡ true → Contains xs x → Contains (filter test xs) x
  Contains-kept x [] passes inside = let low = inside.1 in absurd (omega arith)
  Contains-kept x (y ∷ ys) passes inside = kept_by x y ys (test y) refl passes (Contains-kept x ys passes) inside

  kept-passes : (x : X) (xs : List X) → Contains (filter test xs) x → test x ≡ true
  kept-passes x xs inside = All-contains (λ v. test v ≡ true) (filter test xs) x (filter_passes test xs) inside

  kept-inside : (x : X) (xs : List X) → Contains (filter test xs) x → Contains xs x
  kept-inside x xs inside = All-contains (Contains xs) (filter test xs) x (All-filter test (Contains xs) xs (All-contains_itself xs)) inside

-- a bucket between another and itself is it
between_by : (b c : List ℕ) (r o p : Ordering) → bytes_cmp b c ≡ r → ordering_then r o ≡ Less → ordering_then (ordering_reverse r) p ≡ Less → b ≡ c
between_by b c Less o p e first second = absurd cc
between_by b c Equal o p e first second = bytes_exact b c e
between_by b c Greater o p e first second = absurd cc

between : (b c : List ℕ) (o p : Ordering) → ordering_then (bytes_cmp b c) o ≡ Less → ordering_then (bytes_cmp c b) p ≡ Less → b ≡ c
between b c o p first second = between_by b c (bytes_cmp b c) o p refl first (ap (λ r. ordering_then r p) (sym (bytes_total.antisymm c b)) ∙ second)

-- one step of the walk
pub run_more : {X : Type 0} (bucket_of : X → List ℕ) (bucket : List ℕ) (table : ℕ → Option X) (e : BucketEntry) (rest : List BucketEntry) (v : X) → table (bucket_slot e) ≡ Some v → bytes_eq (bucket_of v) bucket ≡ true → run_of bucket_of bucket (filed bucket_slot table (e ∷ rest)) ≡ v ∷ run_of bucket_of bucket (filed bucket_slot table rest)
run_more {X} bucket_of bucket table e rest v there same =
    ap (run_of bucket_of bucket) (first there)
    ∙ take_while-cons (λ w. bytes_eq (bucket_of w) bucket) v (filed bucket_slot table rest)
    ∙ ap (λ b. cond b (v ∷ run_of bucket_of bucket (filed bucket_slot table rest)) []) same
  where
    first : table (bucket_slot e) ≡ Some v → filed bucket_slot table (e ∷ rest) ≡ v ∷ filed bucket_slot table rest
    first there = rw there refl

module _ {K X : Type 0} (seen : X → Version K) (head_of : K → ℕ) (cmp : K → K → Ordering) (keys : IsKeyOrder cmp) (bucket_of : X → List ℕ) (bucket : List ℕ) where
  abbrev test : X → Bool
  test v = bytes_eq (bucket_of v) bucket

  abbrev under : X → Version (List ℕ × Option K)
  under = by_bucket seen bucket_of

  is_it : (v : X) → test v ≡ true → bucket_of v ≡ bucket
  is_it v e = (bytes_eq-Decides (bucket_of v) bucket).0 e

  passes : (v : X) → bucket_of v ≡ bucket → test v ≡ true
  passes v e = (bytes_eq-Decides (bucket_of v) bucket).1 e

  -- ---- before the front of a bucket is none of its versions
  never_before : (v : X) → bucket_of v ≡ bucket → bucket_cmp cmp (under v).key (bucket, None) ≡ Less → ⊥
  never_before v is less =
      let tie : bytes_cmp (bucket_of v) bucket ≡ Equal = ap (λ b. bytes_cmp b bucket) is ∙ tied_itself bytes_total bucket in
      let more : ordering_then (bytes_cmp (bucket_of v) bucket) Greater ≡ Greater = ap (λ o. ordering_then o Greater) tie in
      cc

  none_by : (b : Bool) (v : X) (rest : List X) → test v ≡ b → (bucket_of v ≡ bucket → ⊥) → rest ≡ [] → cond b (v ∷ rest) rest ≡ []
  none_by true v rest e never none = absurd (never (is_it v e))
  none_by false v rest e never none = none

  none_before : (xs : List X) → AllByRecursion (λ v. bucket_cmp cmp (under v).key (bucket, None) ≡ Less) xs → filter test xs ≡ []
  none_before [] below = refl
  none_before (v ∷ xs) below = none_by (test v) v (filter test xs) refl (λ is. never_before v is below.0) (none_before xs below.1)

  -- ---- from there on they come first
  none_after : (v : X) (xs : List X) → test v ≡ false → bucket_cmp cmp (bucket, None) (under v).key ≡ Less → AreAbove under (bucket_cmp cmp) (under v).key xs → filter test xs ≡ []
  none_after v [] e above rising = refl
  none_after v (w ∷ xs) e above rising =
      none_by (test w) w (filter test xs) refl
      (λ is. let less : ordering_then (bytes_cmp (bucket_of v) bucket) (cmp (seen v).key (seen w).key) ≡ Less = ap (λ b. ordering_then (bytes_cmp (bucket_of v) b) (cmp (seen v).key (seen w).key)) (sym is) ∙ rising.0 in
      let own : bucket ≡ bucket_of v = between bucket (bucket_of v) Less (cmp (seen v).key (seen w).key) above less in
      let same = passes v (sym own) in
      cc)
      (none_after v xs e above rising.1)

  run_by : (b : Bool) (v : X) (xs : List X) → test v ≡ b → (b ≡ false → filter test xs ≡ []) → run_of bucket_of bucket xs ≡ filter test xs → cond b (v ∷ run_of bucket_of bucket xs) [] ≡ cond b (v ∷ filter test xs) (filter test xs)
  run_by true v xs e none same = ap (λ ys. v ∷ ys) same
  run_by false v xs e none same = sym (none refl)

  run : (xs : List X) → IsMap under (bucket_cmp cmp) xs → AllByRecursion (λ v. bucket_cmp cmp (bucket, None) (under v).key ≡ Less) xs → run_of bucket_of bucket xs ≡ filter test xs
  run [] map above = refl
  run (v ∷ xs) map above = take_while-cons test v xs ∙ run_by (test v) v xs refl (λ e. none_after v xs e above.0 map.0) (run xs map.1 above.1)

  -- ---- versions of one bucket are in the order of their keys
  one_above : (v : X) (xs : List X) → bucket_of v ≡ bucket → AllByRecursion (λ w. test w ≡ true) xs → AreAbove under (bucket_cmp cmp) (under v).key xs → AreAbove seen cmp (seen v).key xs
  one_above v [] is all above = tt
  one_above v (w ∷ xs) is all above =
      let same : bucket_of v ≡ bucket_of w = is ∙ sym (is_it w all.0) in
      let tie : bytes_cmp (bucket_of v) (bucket_of w) ≡ Equal = ap (λ b. bytes_cmp (bucket_of v) b) (sym same) ∙ tied_itself bytes_total (bucket_of v) in
      (ap (λ o. ordering_then o (cmp (seen v).key (seen w).key)) (sym tie) ∙ above.0, one_above v xs is all.1 above.1)

  one_bucket : (xs : List X) → AllByRecursion (λ w. test w ≡ true) xs → IsMap under (bucket_cmp cmp) xs → IsMap seen cmp xs
  one_bucket [] all map = tt
  one_bucket (v ∷ xs) all map = (one_above v xs (is_it v all.0) all.1 map.0, one_bucket xs all.1 map.1)

  -- ---- maps of the same versions are one
  same_by : (xs ys : List X) (k : K) (o p : Option X) → IsMap seen cmp xs → IsMap seen cmp ys → ((v : X) → Contains xs v → Contains ys v) → ((v : X) → Contains ys v → Contains xs v) → at seen cmp xs k ≡ o → at seen cmp ys k ≡ p → o ≡ p
  same_by xs ys k None None one other into back e f = refl
  same_by xs ys k (Some v) p one other into back e f =
      let here = at-Contains seen cmp keys xs k v e in
      sym (ap (λ j. at seen cmp ys j) (sym here.0) ∙ at-member seen cmp keys ys v other (into v here.1)) ∙ f
  same_by xs ys k None (Some w) one other into back e f =
      let here = at-Contains seen cmp keys ys k w f in
      sym e ∙ ap (λ j. at seen cmp xs j) (sym here.0) ∙ at-member seen cmp keys xs w one (back w here.1)

  same_members : (xs ys : List X) → IsMap seen cmp xs → IsMap seen cmp ys → ((v : X) → Contains xs v → Contains ys v) → ((v : X) → Contains ys v → Contains xs v) → xs ≡ ys
  same_members xs ys one other into back = same_map seen cmp keys xs ys one other (λ k. same_by xs ys k (at seen cmp xs k) (at seen cmp ys k) one other into back refl refl)

  module _ (table : ℕ → Option X) (kes : List KeyEntry) (es : List BucketEntry) (by_key : IsKeyIndex seen head_of cmp table kes) (is : IsBucketIndex seen head_of cmp bucket_of table es) where
    abbrev all : List X
    all = versions_of table kes

    abbrev listed : List X
    listed = filed bucket_slot table es

    into : (v : X) → Contains listed v → Contains all v
    into v inside =
        All-contains (Contains all) listed v
        (All-from_recursion (Contains all) listed (indexes.listed-all bucket_slot (bucket_entry seen bucket_of head_of) (slot_entry seen head_of cmp keys bucket_of) table (Contains all) (λ s w there. version_inside seen table head_of cmp kes by_key s w there) es is.index.sound)) inside

    filed_inside : (s : ℕ) (v : X) → table s ≡ Some v → Contains listed v
    filed_inside s v there =
        let inside = is.index.complete s v there in
        let long = indexes.listed-length bucket_slot (bucket_entry seen bucket_of head_of) (slot_entry seen head_of cmp keys bucket_of) table es is.index.sound in
        let low = inside.1 in
        (inside.0, omega arith, indexes.listed-at bucket_slot (bucket_entry seen bucket_of head_of) (slot_entry seen head_of cmp keys bucket_of) table es inside.0 (bucket_entry seen bucket_of head_of s v) v is.index.sound inside.1 inside.2 there)

    back : (v : X) → Contains all v → Contains listed v
    back v inside = All-contains (Contains listed) all v (All-from_recursion (Contains listed) all (each_version seen table head_of cmp kes by_key (Contains listed) filed_inside)) inside

    -- both indexes have the same versions of the bucket
    same_bucket : filter test listed ≡ in_bucket bucket_of bucket all
    same_bucket =
        same_members (filter test listed) (filter test all)
        (one_bucket (filter test listed) (recursion_from_All (λ w. test w ≡ true) (filter test listed) (filter_passes test listed)) (IsMap-filter under (bucket_cmp cmp) test listed is.order))
        (IsMap-filter seen cmp test all by_key.order)
        (λ v inside. Contains-kept test v all (kept-passes test v listed inside) (into v (kept-inside test v listed inside)))
        (λ v inside. Contains-kept test v listed (kept-passes test v all inside) (back v (kept-inside test v all inside)))

    -- ---- the walk from the front
    rising_from : (i : ℕ) (xs : List X) → IsMap under (bucket_cmp cmp) xs → IsMap under (bucket_cmp cmp) (drop i xs)
    rising_from zero xs map = map
    rising_from (suc i) [] map = tt
    rising_from (suc i) (x ∷ xs) map = rising_from i xs map.1

    pub walked_from : (i : ℕ) → IsGapFor under (bucket_cmp cmp) listed (bucket, None) i → run_of bucket_of bucket (filed bucket_slot table (drop i es)) ≡ in_bucket bucket_of bucket all
    walked_from i gap =
        ap (run_of bucket_of bucket) (sym (indexes.listed-drop bucket_slot (bucket_entry seen bucket_of head_of) (slot_entry seen head_of cmp keys bucket_of) table es i is.index.sound))
        ∙ run (drop i listed) (rising_from i listed is.order) (recursion_from_All (λ v. bucket_cmp cmp (bucket, None) (under v).key ≡ Less) (drop i listed) gap.above)
        ∙ ap (λ ys. ys ++ filter test (drop i listed)) (sym (none_before (take i listed) (recursion_from_All (λ v. bucket_cmp cmp (under v).key (bucket, None) ≡ Less) (take i listed) gap.below)))
        ∙ sym (filter-append test (take i listed) (drop i listed))
        ∙ ap (filter test) (take-append-drop i listed)
        ∙ same_bucket
