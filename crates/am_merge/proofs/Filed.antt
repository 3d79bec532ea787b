-- Indexes made anew: entries of which each slot has one, sorted.
use Rattle.std.proofs.Common.{◌≡◌, ℕ, ◌+◌, ◌<◌, suc, Bool, true, false, cond, List, [], ◌∷◌, Option, Some, None, refl, sym, ap, ◌∙◌, subst, arith, Contains, map}
use Rattle.std.specs.Prelude.{IsPermutation, ◌==◌, if◌then◌else◌}
use Rattle.std.specs.Option.{option_cmp, option_map}
use Rattle.std.specs.List.{AllByRecursion, AllPairs, IsDistinct}
use Rattle.std.specs.List.Sorted.{IsSorted}
use Rattle.std.specs.Cmp.{IsTotalOrder}
use Rattle.std.proofs.lemmas.Bool.Decides.{nat_tests}
use Rattle.std.proofs.lemmas.List.Elements.{All-from_recursion, recursion_from_All, All-weaker, All-contains_itself}
use Rattle.std.proofs.lemmas.List.Sorted.{Contains-permutation, All-permutation, ranks_by, sorted_far}
use Rattle.std.proofs.lemmas.Map.Keys.{IsDistinct-IsPermutation}
use Rattle.std.specs.declared.cmp.Ordering.{Ordering}
use Rattle.std.specs.declared.cmp.Ordering.TheVariants.{Less, Equal, Greater}
use Rattle.std.specs.Ordering.{is_lt, nat_cmp, ordering_reverse, ordering_then}
use Rattle.std.specs.Cmp.Lexicographic.{slice_cmp}
use Rattle.std.proofs.lemmas.Cmp.{ranked}
use Rattle.slab.specs.Slab.{Slab, get, entries_from, entries as slots}
use Rattle.slab.proofs.SlabLemmas.{Contains-entries}
use Rattle.am_version_order.specs.Versions.{Version}
use Rattle.am_merge.specs.Maps.{IsMap}
use Rattle.am_merge.specs.Indexes.{filed, Names, IsIndex}
use Rattle.am_merge.specs.Orders.{time_order, place_order}
use Rattle.am_merge.specs.Entries.{expiry_slot, expiry_entry, with_slots, by_time, time_cmp}
use Rattle.am_merge.specs.Buckets.{bucket_slot, number_of, bytes_cmp, bucket_cmp, by_bucket, bucket_entry}
use Rattle.am_merge.specs.Stores.{IsKeyIndex, IsExpiryIndex, IsBucketIndex}
use Rattle.am_merge.specs.declared.entry.ExpiryEntry.{ExpiryEntry}
use Rattle.am_merge.specs.declared.entry.BucketEntry.{BucketEntry}
use Rattle.am_merge.proofs.Keys.{IsKeyOrder}
use Rattle.am_merge.proofs.Indexes as indexes
use Rattle.am_merge.proofs.Indexes.{some_is}
use Rattle.am_merge.proofs.Stores.{times, with_slots_is, some_with_slots, key_unique}
use Rattle.am_merge.proofs.Buckets.{places, empty_number}
use Rattle.am_merge.proofs.Built.{AreApart, apart-map, keys_versions, Contains-map}
use Rattle.am_merge.proofs.Totals.{time_total, place_total}

-- each item is before all that follow it
abbrev IsRisingBy : {T : Type 0} → (T → T → Ordering) → List T → Type 0
IsRisingBy order [] = Unit {0}
IsRisingBy order (x ∷ xs) = AllByRecursion (λ y. order x y ≡ Less) xs × IsRisingBy order xs

-- of a sorted list, no item is before one that precedes it
sorted_pairs : {T : Type 0} (order : T → T → Ordering) → IsTotalOrder order → (xs : List T) → IsSorted order xs → AllPairs (λ one other. is_lt (order other one) ≡ false) xs
sorted_pairs order total xs sorted i j d less within = sorted_far (λ one other. is_lt (order one other)) (ranks_by total (λ one. one)) xs sorted i j d (omega arith) within

-- ---- the order of places
then_apart : (a b c : Ordering) → ordering_then a (ordering_then b c) ≡ ordering_then (ordering_then a b) c
then_apart Less b c = refl
then_apart Equal b c = refl
then_apart Greater b c = refl

-- the bytes, where there are some
abbrev if_some : Bool → List ℕ → Option (List ℕ)
if_some t b = cond t None (Some b)

-- where one number is 0 the other one is too, and neither has bytes
bytes_by : (b c : List ℕ) (t u : Bool) (o : Ordering) → (number_of b == 0) ≡ t → (number_of c == 0) ≡ u → nat_cmp (number_of b) (number_of c) ≡ o
    → ordering_then o (option_cmp (slice_cmp nat_cmp) (if_some t b) (if_some u c)) ≡ ordering_then o (slice_cmp nat_cmp b c)
bytes_by b c t u Less first second e = refl
bytes_by b c t u Greater first second e = refl
bytes_by b c false false Equal first second e = refl
bytes_by b c true true Equal first second e =
    let none : number_of b ≡ 0 = grind (arith, nat_tests) in
    let nothing : number_of c ≡ 0 = grind (arith, nat_tests) in
    let one = empty_number b none in
    let other = empty_number c nothing in
    sym (λ i. slice_cmp nat_cmp (one i) (other i))
bytes_by b c true false Equal first second e =
    let same : number_of b ≡ number_of c = ranked (number_of b) (number_of c) Equal (sym e) in
    let test = sym first ∙ ap (λ n. n == 0) same ∙ second in
    cc
bytes_by b c false true Equal first second e =
    let same : number_of b ≡ number_of c = ranked (number_of b) (number_of c) Equal (sym e) in
    let test = sym first ∙ ap (λ n. n == 0) same ∙ second in
    cc

bytes_same : (b c : List ℕ) → ordering_then (nat_cmp (number_of b) (number_of c)) (option_cmp (slice_cmp nat_cmp) (if_some (number_of b == 0) b) (if_some (number_of c == 0) c)) ≡ bytes_cmp b c
bytes_same b c = bytes_by b c (number_of b == 0) (number_of c == 0) (nat_cmp (number_of b) (number_of c)) refl refl refl

-- the first of a list and those behind it, and these
pairs_first : {T : Type 0} (R : T → T → Type 0) (x : T) (xs : List T) → AllPairs R (x ∷ xs) → AllByRecursion (R x) xs
pairs_first R x xs pairs = recursion_from_All (R x) xs (λ k d within. pairs 0 (suc k) d (omega arith) (omega arith))

pairs_rest : {T : Type 0} (R : T → T → Type 0) (x : T) (xs : List T) → AllPairs R (x ∷ xs) → AllPairs R xs
pairs_rest R x xs pairs i j d less within = pairs (suc i) (suc j) d (omega arith) (omega arith)

module _ {E Y : Type 0} (slot_of : E → ℕ) (entry : ℕ → Y → E) (slot_entry : (s : ℕ) (y : Y) → slot_of (entry s y) ≡ s) (table : ℕ → Option Y) where
  abbrev Named : E → Type 0
  Named = Names slot_of entry table

  flips : (e f : E) → (slot_of e == slot_of f) ≡ (slot_of f == slot_of e)
  flips e f = grind (arith, nat_tests)

  -- an index is one in any order of its entries
  index_permuted : (es fs : List E) → IsPermutation es fs → IsIndex slot_of entry table es → IsIndex slot_of entry table fs
  index_permuted es fs moved index =
      record {
        sound = recursion_from_All Named fs (All-permutation Named es fs moved (All-from_recursion Named es index.sound));
        complete = λ s y there. Contains-permutation es fs (entry s y) moved (index.complete s y there);
      }

  -- an order of the entries is that of the keys of what they name
  module _ {R : Type 0} (seen : Y → Version R) (cmp : R → R → Ordering) (keys : IsKeyOrder cmp) (order : E → E → Ordering)
      (agrees : (e f : E) (y z : Y) → table (slot_of e) ≡ Some y → table (slot_of f) ≡ Some z → e ≡ entry (slot_of e) y → f ≡ entry (slot_of f) z → order e f ≡ cmp (seen y).key (seen z).key)
      (apart : (s t : ℕ) (y z : Y) → table s ≡ Some y → table t ≡ Some z → (seen y).key ≡ (seen z).key → s ≡ t)
      (total : IsTotalOrder order) where
    agrees_at : (e f : E) (one : Named e) (other : Named f) → order e f ≡ cmp (seen one.value).key (seen other.value).key
    agrees_at e f one other = agrees e f one.value other.value one.there other.there one.is other.is

    -- entries that tie are one
    tied_same : (e f : E) → Named e → Named f → order e f ≡ Equal → e ≡ f
    tied_same e f one other tie =
        let key = keys.exact (seen one.value).key (seen other.value).key (sym (agrees_at e f one other) ∙ tie) in
        let slot = apart (slot_of e) (slot_of f) one.value other.value one.there other.there key in
        let value : one.value ≡ other.value = some_is (sym one.there ∙ ap table slot ∙ other.there) in
        one.is ∙ (λ i. entry (slot i) (value i)) ∙ sym other.is

    above : (e : E) (named : Named e) (fs : List E) → AllByRecursion Named fs → AllByRecursion (λ f. order e f ≡ Less) fs → AllByRecursion (λ z. cmp (seen named.value).key (seen z).key ≡ Less) (filed slot_of table fs)
    above e named [] sound all = tt
    above e named (f ∷ fs) sound all =
        subst (AllByRecursion (λ z. cmp (seen named.value).key (seen z).key ≡ Less)) (sym (indexes.listed-more slot_of entry slot_entry table f fs sound.0.value sound.0.there))
        (sym (agrees_at e f named sound.0) ∙ all.0, above e named fs sound.1 all.1)

    -- what rising entries name is a map
    map_rising : (es : List E) → AllByRecursion Named es → IsRisingBy order es → IsMap seen cmp (filed slot_of table es)
    map_rising [] sound rising = tt
    map_rising (e ∷ es) sound rising =
        subst (IsMap seen cmp) (sym (indexes.listed-more slot_of entry slot_entry table e es sound.0.value sound.0.there))
        (above e sound.0 es sound.1 rising.0, map_rising es sound.1 rising.1)

    -- what doesn't come before another, and doesn't tie with it, is behind it
    behind : (x y : E) (o : Ordering) → order x y ≡ o → is_lt (order y x) ≡ false → (order x y ≡ Equal → ⊥) → o ≡ Less
    behind x y Less is not_before apart_here = refl
    behind x y Equal is not_before apart_here = absurd (apart_here is)
    behind x y Greater is not_before apart_here = let turned : order y x ≡ Less = total.antisymm y x ∙ ap ordering_reverse is in let test = ap is_lt (sym turned) ∙ not_before in cc

    all_behind : (e : E) → Named e → (fs : List E) → AllByRecursion Named fs → AllByRecursion (λ f. (slot_of e == slot_of f) ≡ false) fs → AllByRecursion (λ f. is_lt (order f e) ≡ false) fs → AllByRecursion (λ f. order e f ≡ Less) fs
    all_behind e named [] sound differ sorted = tt
    all_behind e named (f ∷ fs) sound differ sorted =
        let never : order e f ≡ Equal → ⊥ = λ tie. let same = ap slot_of (tied_same e f named sound.0 tie) in let test = differ.0 in grind (arith, nat_tests) in
        (behind e f (order e f) refl sorted.0 never, all_behind e named fs sound.1 differ.1 sorted.1)

    -- sorted entries of slots that are apart rise
    rising_apart : (es : List E) → AllByRecursion Named es → AreApart slot_of es → AllPairs (λ one other. is_lt (order other one) ≡ false) es → IsRisingBy order es
    unfolding IsDistinct
    rising_apart [] sound differ pairs = tt
    rising_apart (e ∷ es) sound differ pairs =
        (all_behind e sound.0 es sound.1 differ.0 (pairs_first (λ one other. is_lt (order other one) ≡ false) e es pairs), rising_apart es sound.1 differ.1 (pairs_rest (λ one other. is_lt (order other one) ≡ false) e es pairs))

    -- an index, sorted
    pub filed_anew : (list sorted : List E) → IsIndex slot_of entry table list → AreApart slot_of list → IsPermutation list sorted → IsSorted order sorted
        → IsIndex slot_of entry table sorted × IsMap seen cmp (filed slot_of table sorted)
    filed_anew list sorted index differ moved in_order =
        let anew = index_permuted list sorted moved index in
        let rising = rising_apart sorted anew.sound (IsDistinct-IsPermutation _ flips list sorted moved differ) (sorted_pairs order total sorted in_order) in
        (anew, map_rising sorted anew.sound rising)

module _ {K X : Type 0} (seen : X → Version K) where
  -- ---- the index by expiry: its order is that of the moments, and those say the slots
  time_agrees : (table : ℕ → Option X) (e f : ExpiryEntry) (y z : ℕ × X) → with_slots table (expiry_slot e) ≡ Some y → with_slots table (expiry_slot f) ≡ Some z → e ≡ expiry_entry seen (expiry_slot e) y → f ≡ expiry_entry seen (expiry_slot f) z → time_order e f ≡ time_cmp (by_time seen y).key (by_time seen z).key
  time_agrees table e f y z here there one other =
      let first : e.expires ≡ (seen y.1).expires = ap (λ (x : ExpiryEntry). x.expires) one in
      let second : f.expires ≡ (seen z.1).expires = ap (λ (x : ExpiryEntry). x.expires) other in
      let low : e.slot ≡ y.0 = sym (with_slots_is table e.slot y here).0 in
      let high : f.slot ≡ z.0 = sym (with_slots_is table f.slot z there).0 in
      λ i. ordering_then (nat_cmp (first i) (second i)) (nat_cmp (low i) (high i))

  time_apart : (table : ℕ → Option X) (s t : ℕ) (y z : ℕ × X) → with_slots table s ≡ Some y → with_slots table t ≡ Some z → (by_time seen y).key ≡ (by_time seen z).key → s ≡ t
  time_apart table s t y z here there key = sym (with_slots_is table s y here).0 ∙ ap (λ (p : ℕ × ℕ). p.1) key ∙ (with_slots_is table t z there).0

  -- the entries of a table, slot by slot
  abbrev timed : List (ℕ × X) → List ExpiryEntry
  timed all = map (λ there. expiry_entry seen there.0 there) all

  timed_sound : (table : ℕ → Option X) (all : List (ℕ × X)) → AllByRecursion (λ there. table there.0 ≡ Some there.1) all → AllByRecursion (Names expiry_slot (expiry_entry seen) (with_slots table)) (timed all)
  timed_sound table [] sound = tt
  timed_sound table (there ∷ all) sound = (record { value = there; there = some_with_slots table there.0 there.1 sound.0; is = refl }, timed_sound table all sound.1)

  timed_above : (low s : ℕ) → s < low → (slots : List (Option X)) → AllByRecursion (λ e. (s == expiry_slot e) ≡ false) (timed (entries_from low slots))
  timed_above low s below [] = tt
  timed_above low s below (None ∷ rest) = timed_above (low + 1) s (omega arith) rest
  timed_above low s below (Some v ∷ rest) = (grind (arith, nat_tests), timed_above (low + 1) s (omega arith) rest)

  timed_apart : (low : ℕ) (slots : List (Option X)) → AreApart expiry_slot (timed (entries_from low slots))
  unfolding IsDistinct
  timed_apart low [] = tt
  timed_apart low (None ∷ rest) = timed_apart (low + 1) rest
  timed_apart low (Some v ∷ rest) = (timed_above (low + 1) low (omega arith) rest, timed_apart (low + 1) rest)

  timed_index : (table : Slab X) → IsIndex expiry_slot (expiry_entry seen) (with_slots (get table)) (timed (slots table))
  timed_index table =
      record {
        sound = timed_sound (get table) (slots table)
            (recursion_from_All (λ there. get table there.0 ≡ Some there.1) (slots table)
            (All-weaker (Contains (slots table)) (λ there. get table there.0 ≡ Some there.1) (λ there inside. (Contains-entries table there.0 there.1).0 inside) (slots table) (All-contains_itself (slots table))));
        complete = λ s y found.
            let (own, there) = with_slots_is (get table) s y found in
            Contains-map (λ there. expiry_entry seen there.0 there) (slots table) (s, y.1) ((Contains-entries table s y.1).1 there);
      }

  pub expiries_filed : (table : Slab X) (list sorted : List ExpiryEntry) → list ≡ timed (slots table) → IsPermutation list sorted → IsSorted time_order sorted → IsExpiryIndex seen (get table) sorted
  expiries_filed table list sorted made moved in_order =
      let both = filed_anew expiry_slot (expiry_entry seen) (λ s y. refl) (with_slots (get table)) (by_time seen) time_cmp times time_order (time_agrees (get table)) (time_apart (get table)) time_total (timed (slots table)) sorted
      (timed_index table) (timed_apart 0 table.slots) (subst (λ es. IsPermutation es sorted) made moved) in_order in
      record { index = both.0; order = both.1 }

  -- ---- the index by bucket
  module _ (head_of : K → ℕ) (cmp : K → K → Ordering) (keys : IsKeyOrder cmp) (bucket_of : X → List ℕ) (heads : (x y : K) → ordering_then (nat_cmp (head_of x) (head_of y)) (cmp x y) ≡ cmp x y) (table : ℕ → Option X) where
    abbrev own : ℕ → X → BucketEntry
    own = bucket_entry seen bucket_of head_of

    abbrev under : X → Version (List ℕ × Option K)
    under = by_bucket seen bucket_of

    abbrev order : BucketEntry → BucketEntry → Ordering
    order = place_order seen bucket_of cmp table

    -- the order of the entries is that of the places
    place_agrees : (e f : BucketEntry) (v w : X) → table (bucket_slot e) ≡ Some v → table (bucket_slot f) ≡ Some w → e ≡ own (bucket_slot e) v → f ≡ own (bucket_slot f) w → order e f ≡ bucket_cmp cmp (under v).key (under w).key
    place_agrees e f v w here there one other =
        let number : e.number ≡ number_of (bucket_of v) = ap (λ (x : BucketEntry). x.number) one in
        let digit : f.number ≡ number_of (bucket_of w) = ap (λ (x : BucketEntry). x.number) other in
        let head : e.key.head ≡ head_of (seen v).key = ap (λ (x : BucketEntry). x.key.head) one in
        let top : f.key.head ≡ head_of (seen w).key = ap (λ (x : BucketEntry). x.key.head) other in
        let numbers = nat_cmp (number_of (bucket_of v)) (number_of (bucket_of w)) in
        let bytes = option_cmp (slice_cmp nat_cmp) (if_some (number_of (bucket_of v) == 0) (bucket_of v)) (if_some (number_of (bucket_of w) == 0) (bucket_of w)) in
        let ends = ordering_then (nat_cmp (head_of (seen v).key) (head_of (seen w).key)) (cmp (seen v).key (seen w).key) in
        let known : order e f ≡ ordering_then numbers (ordering_then bytes ends) =
        λ i.
        ordering_then (nat_cmp (number i) (digit i))
        (ordering_then
        (option_cmp (slice_cmp nat_cmp) (if number i == 0 then None else option_map bucket_of (here i)) (if digit i == 0 then None else option_map bucket_of (there i)))
        (ordering_then (nat_cmp (head i) (top i)) (option_cmp cmp (option_map (λ x. (seen x).key) (here i)) (option_map (λ x. (seen x).key) (there i))))) in
        known ∙ then_apart numbers bytes ends ∙ (λ i. ordering_then (bytes_same (bucket_of v) (bucket_of w) i) (heads (seen v).key (seen w).key i))

    pub buckets_filed : (list sorted : List BucketEntry) → IsIndex bucket_slot own table list → IsKeyIndex seen head_of cmp table (map (λ e. e.key) list) → IsPermutation list sorted → IsSorted order sorted → IsBucketIndex seen head_of cmp bucket_of table sorted
    buckets_filed list sorted index is moved in_order =
        let apart : (s t : ℕ) (v w : X) → table s ≡ Some v → table t ≡ Some w → (under v).key ≡ (under w).key → s ≡ t =
        λ s t v w here there key. key_unique seen head_of cmp keys table (map (λ e. e.key) list) s t v w is here there (some_is (ap (λ (p : List ℕ × Option K). p.1) key)) in
        let differ = apart-map bucket_slot own (λ s v. refl) seen cmp keys table list index.sound (subst (IsMap seen cmp) (keys_versions table list) is.order) in
        let both = filed_anew bucket_slot own (λ s v. refl) table under (bucket_cmp cmp) (places cmp keys) order place_agrees apart (place_total seen keys.total table bucket_of) list sorted index differ moved in_order in
        record { index = both.0; order = both.1 }
