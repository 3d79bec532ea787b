-- The index by bucket when something is put into its table, replaced or taken out, and what searches over it find.
use Rattle.std.proofs.Common.{◌≡◌, ℕ, ◌<◌, Bool, true, false, cond, List, [], ◌∷◌, length, get_or, fold, Option, Some, None, refl, sym, ap, ◌∙◌, subst, arith}
use Rattle.std.specs.Prelude.{insert, ◌==◌, if◌then◌else◌}
use Rattle.std.specs.Option.{option_cmp}
use Rattle.std.specs.List.{HoldsAt, remove}
use Rattle.std.proofs.lemmas.Bool.Decides.{nat_tests}
use Rattle.std.proofs.lemmas.List.{get_or_default}
use Rattle.std.specs.declared.cmp.Ordering.{Ordering}
use Rattle.std.specs.declared.cmp.Ordering.TheVariants.{Less, Equal, Greater}
use Rattle.std.specs.Ordering.{nat_cmp, ordering_then}
use Rattle.std.specs.Cmp.{IsTotalOrder}
use Rattle.std.specs.Cmp.Lexicographic.{slice_cmp, options_total}
use Rattle.std.proofs.lemmas.Cmp.{nat_cmp_total, nat_list_cmp_total, on_total, then_total, ranked}
use Rattle.std.proofs.lemmas.Map.Lookups.{exact_bytes}
use Rattle.am_merge.specs.declared.blocks.cursor.Cursor.{Cursor}
use Rattle.am_merge.specs.Rows.{Rows, entries}
use Rattle.am_merge.specs.Cursors.{place}
use Rattle.am_merge.specs.Searches.{IsRising, IsFound, IsMissing}
use Rattle.am_version_order.specs.Versions.{Version}
use Rattle.am_merge.specs.Maps.{IsMap}
use Rattle.am_merge.specs.Places.{IsGapFor}
use Rattle.am_merge.specs.Indexes.{Changes, filed}
use Rattle.am_merge.specs.Entries.{tie_of}
use Rattle.am_merge.specs.Buckets.{bucket_slot, numbered, number_of, bytes_cmp, bucket_cmp, bytes_tie, bytes_order, front_order, by_bucket, bucket_entry, bucket_order}
use Rattle.am_merge.specs.Stores.{IsBucketIndex, IsAbsent}
use Rattle.am_merge.specs.declared.entry.BucketEntry.{BucketEntry}
use Rattle.am_merge.proofs.Keys.{IsKeyOrder, key_order as order_of_keys}
use Rattle.am_merge.proofs.Indexes as indexes
use Rattle.am_merge.proofs.Stores.{then_equal, item_within, cursor_within}

-- ---- the order of places
pub bytes_exact : (b c : List ℕ) → bytes_cmp b c ≡ Equal → b ≡ c
bytes_exact b c e = exact_bytes b c (then_equal (nat_cmp (number_of b) (number_of c)) (slice_cmp nat_cmp b c) e).1

pub bytes_total : IsTotalOrder bytes_cmp
bytes_total = then_total (on_total number_of nat_cmp_total) nat_list_cmp_total

module _ {K : Type 0} (cmp : K → K → Ordering) (keys : IsKeyOrder cmp) where
  option_exact : (j k : Option K) → option_cmp cmp j k ≡ Equal → j ≡ k
  option_exact None None e = refl
  option_exact None (Some k) e = cc
  option_exact (Some j) None e = cc
  option_exact (Some j) (Some k) e = ap Some (keys.exact j k e)

  place_exact : (j k : List ℕ × Option K) → bucket_cmp cmp j k ≡ Equal → j ≡ k
  place_exact j k e =
      let both = then_equal (bytes_cmp j.0 k.0) (option_cmp cmp j.1 k.1) e in
      let first = bytes_exact j.0 k.0 both.0 in
      let second = option_exact j.1 k.1 both.1 in
      λ i. (first i, second i)

  pub places : IsKeyOrder (bucket_cmp cmp)
  places = order_of_keys (then_total (on_total (λ (p : List ℕ × Option K). p.0) bytes_total) (on_total (λ (p : List ℕ × Option K). p.1) (options_total keys.total))) place_exact

-- ---- numbers
not_zero : (n : ℕ) (b : Bool) → (n == 0) ≡ b → cond b 1 n ≡ 0 → ⊥
not_zero n true is e = cc
not_zero n false is e = let zero : (n == 0) ≡ true = ap (λ m. m == 0) e in cc

pub empty_number : (b : List ℕ) → number_of b ≡ 0 → b ≡ []
empty_number [] e = refl
empty_number (x ∷ xs) e = absurd (not_zero (fold numbered 0 (x ∷ xs)) (fold numbered 0 (x ∷ xs) == 0) refl e)

-- where a number is 0 no bytes need be looked at
unlooked_by : (b c : List ℕ) (t : Bool) (o : Ordering) → (number_of b == 0) ≡ t → nat_cmp (number_of b) (number_of c) ≡ o → ordering_then o (cond t Equal (slice_cmp nat_cmp b c)) ≡ ordering_then o (slice_cmp nat_cmp b c)
unlooked_by b c t Less zero e = refl
unlooked_by b c t Greater zero e = refl
unlooked_by b c false Equal zero e = refl
unlooked_by b c true Equal zero e =
    let none : number_of b ≡ 0 = grind (arith, nat_tests) in
    let same : number_of b ≡ number_of c = ranked (number_of b) (number_of c) Equal (sym e) in
    let first = empty_number b none in
    let second = empty_number c (sym same ∙ none) in
    sym (λ i. slice_cmp nat_cmp (first i) (second i))

unlooked : (b c : List ℕ) → ordering_then (nat_cmp (number_of b) (number_of c)) (if number_of b == 0 then Equal else slice_cmp nat_cmp b c) ≡ bytes_cmp b c
unlooked b c = unlooked_by b c (number_of b == 0) (nat_cmp (number_of b) (number_of c)) refl refl

fallback : BucketEntry
fallback = record { number = 0; key = record { head = 0; slot = 0 } }

module _ {K X : Type 0} (seen : X → Version K) (head_of : K → ℕ) (cmp : K → K → Ordering) (keys : IsKeyOrder cmp) (bucket_of : X → List ℕ) where
  pub slot_entry : (s : ℕ) (v : X) → bucket_slot (bucket_entry seen bucket_of head_of s v) ≡ s
  slot_entry s v = refl

  abbrev own : ℕ → X → BucketEntry
  own = bucket_entry seen bucket_of head_of

  abbrev under : X → Version (List ℕ × Option K)
  under = by_bucket seen bucket_of

  abbrev Filed : (ℕ → Option X) → List BucketEntry → Type 0
  Filed table es = IsBucketIndex seen head_of cmp bucket_of table es

  abbrev pub listed : (ℕ → Option X) → List BucketEntry → List X
  listed table es = filed bucket_slot table es

  -- ---- searches
  module _ (table : ℕ → Option X) (bucket : List ℕ) (number : ℕ) (number_is : number ≡ number_of bucket) where
    bytes_agree : (e : BucketEntry) (v : X) → table (bucket_slot e) ≡ Some v → e ≡ own (bucket_slot e) v → bytes_order bucket_of table number bucket e ≡ bytes_cmp (bucket_of v) bucket
    bytes_agree e v there is =
        let mine : e.number ≡ number_of (bucket_of v) = ap (λ (x : BucketEntry). x.number) is in
        (λ i. ordering_then (nat_cmp (mine i) (number_is i)) (if mine i == 0 then Equal else bytes_tie bucket_of (there i) bucket)) ∙ unlooked (bucket_of v) bucket

    front_agrees : (e : BucketEntry) (v : X) → table (bucket_slot e) ≡ Some v → e ≡ own (bucket_slot e) v → front_order bucket_of table number bucket e ≡ bucket_cmp cmp (under v).key (bucket, None)
    front_agrees e v there is = ap (λ o. ordering_then o Greater) (bytes_agree e v there is)

    pub front_rising : (es : List BucketEntry) → Filed table es → IsRising (front_order bucket_of table number bucket) es
    front_rising es is = indexes.rising bucket_slot own slot_entry under (bucket_cmp cmp) (places cmp keys) table (bucket, None) (front_order bucket_of table number bucket) front_agrees es is.index.sound is.order

    pub front_missed : (rows : Rows BucketEntry) (cursor : Cursor) → Filed table (entries rows) → IsMissing (front_order bucket_of table number bucket) rows cursor → IsGapFor under (bucket_cmp cmp) (listed table (entries rows)) (bucket, None) (place rows cursor)
    front_missed rows cursor is missing = indexes.missed bucket_slot own slot_entry under (bucket_cmp cmp) (places cmp keys) table (bucket, None) (front_order bucket_of table number bucket) front_agrees (entries rows) (place rows cursor) is.index.sound (cursor_within rows cursor missing.within) missing.before missing.behind

    -- nothing is the front
    never_equal : (o : Ordering) → ordering_then o Greater ≡ Equal → ⊥
    never_equal Less e = cc
    never_equal Equal e = cc
    never_equal Greater e = cc

    pub front_never_met : (rows : Rows BucketEntry) (cursor : Cursor) → IsFound (front_order bucket_of table number bucket) rows cursor → ⊥
    front_never_met rows cursor found = never_equal (bytes_order bucket_of table number bucket (get_or (entries rows) (place rows cursor) fallback)) (found.equal fallback)

    module _ (heads : (x y : K) → ordering_then (nat_cmp (head_of x) (head_of y)) (cmp x y) ≡ cmp x y) (key : K) (head : ℕ) (head_is : head ≡ head_of key) where
      abbrev order : BucketEntry → Ordering
      order = bucket_order seen bucket_of cmp table number bucket head key

      pub bucket_agrees : (e : BucketEntry) (v : X) → table (bucket_slot e) ≡ Some v → e ≡ own (bucket_slot e) v → order e ≡ bucket_cmp cmp (under v).key (bucket, Some key)
      bucket_agrees e v there is =
          let mine : e.key.head ≡ head_of (seen v).key = ap (λ (x : BucketEntry). x.key.head) is in
          (λ i. ordering_then (bytes_agree e v there is i) (ordering_then (nat_cmp (mine i) (head_is i)) (tie_of seen cmp (there i) key)))
          ∙ ap (λ o. ordering_then (bytes_cmp (bucket_of v) bucket) o) (heads (seen v).key key)

      pub bucket_rising : (es : List BucketEntry) → Filed table es → IsRising order es
      bucket_rising es is = indexes.rising bucket_slot own slot_entry under (bucket_cmp cmp) (places cmp keys) table (bucket, Some key) order bucket_agrees es is.index.sound is.order

      pub bucket_missed : (rows : Rows BucketEntry) (cursor : Cursor) → Filed table (entries rows) → IsMissing order rows cursor → IsGapFor under (bucket_cmp cmp) (listed table (entries rows)) (bucket, Some key) (place rows cursor)
      bucket_missed rows cursor is missing = indexes.missed bucket_slot own slot_entry under (bucket_cmp cmp) (places cmp keys) table (bucket, Some key) order bucket_agrees (entries rows) (place rows cursor) is.index.sound (cursor_within rows cursor missing.within) missing.before missing.behind

      -- a key that no version has isn't found
      pub bucket_never_met : (rows : Rows BucketEntry) (cursor : Cursor) → IsAbsent seen table key → Filed table (entries rows) → IsFound order rows cursor → ⊥
      bucket_never_met rows cursor absent is found =
          let within = item_within rows cursor found.item in
          let e = get_or (entries rows) (place rows cursor) fallback in
          let names = indexes.sound-at bucket_slot own slot_entry table (entries rows) (place rows cursor) e is.index.sound within (sym (get_or_default (entries rows) (place rows cursor) fallback e within)) in
          let tie : bucket_cmp cmp (under names.value).key (bucket, Some key) ≡ Equal = sym (bucket_agrees e names.value names.there names.is) ∙ found.equal fallback in
          let same : (seen names.value).key ≡ key = keys.exact (seen names.value).key key (then_equal (bytes_cmp (bucket_of names.value) bucket) (cmp (seen names.value).key key) tie).1 in
          absent (bucket_slot e) names.value names.there same

  module _ (heads : (x y : K) → ordering_then (nat_cmp (head_of x) (head_of y)) (cmp x y) ≡ cmp x y) (table : ℕ → Option X) (slot : ℕ) (v : X) (there : table slot ≡ Some v) (number head : ℕ) (number_is : number ≡ number_of (bucket_of v)) (head_is : head ≡ head_of (seen v).key) (rows : Rows BucketEntry) (cursor : Cursor) (is : Filed table (entries rows)) where
    abbrev own_order : BucketEntry → Ordering
    own_order = bucket_order seen bucket_of cmp table number (bucket_of v) head (seen v).key

    own_agrees : (e : BucketEntry) (w : X) → table (bucket_slot e) ≡ Some w → e ≡ own (bucket_slot e) w → own_order e ≡ bucket_cmp cmp (under w).key (under v).key
    own_agrees = bucket_agrees table (bucket_of v) number number_is heads (seen v).key head head_is

    pub bucket_never_missed : IsMissing own_order rows cursor → ⊥
    bucket_never_missed missing = indexes.never-missed bucket_slot own slot_entry under (bucket_cmp cmp) (places cmp keys) table slot v there (entries rows) is.index is.order own_order own_agrees (place rows cursor) missing.before missing.behind

    pub bucket_met_own : IsFound own_order rows cursor → HoldsAt (λ e. bucket_slot e ≡ slot) (entries rows) (place rows cursor)
    bucket_met_own found = indexes.met-own bucket_slot own slot_entry under (bucket_cmp cmp) (places cmp keys) table slot v there (entries rows) is.index is.order own_order own_agrees (place rows cursor) (item_within rows cursor found.item) found.equal

  -- ---- changes
  pub bucket_put : (old new : ℕ → Option X) (es : List BucketEntry) (slot : ℕ) (v : X) (i : ℕ) → old slot ≡ None → Changes old new slot (Some v) → Filed old es → IsGapFor under (bucket_cmp cmp) (listed old es) (under v).key i → Filed new (insert es i (own slot v))
  bucket_put old new es slot v i vacant changes is gap =
      record {
        index = indexes.index-put bucket_slot own slot_entry old new slot v changes vacant es is.index i;
        order = subst (IsMap under (bucket_cmp cmp)) (sym (indexes.listed-put bucket_slot own slot_entry old new slot v changes vacant es is.index i))
            (indexes.order-put bucket_slot own slot_entry under (bucket_cmp cmp) (places cmp keys) (listed old es) v i is.order gap);
      }

  listed_length : (table : ℕ → Option X) (es : List BucketEntry) → Filed table es → length (listed table es) ≡ length es
  listed_length table es is = indexes.listed-length bucket_slot own slot_entry table es is.index.sound

  pub bucket_taken : (old new : ℕ → Option X) (es : List BucketEntry) (slot : ℕ) (v : X) (i : ℕ) → old slot ≡ Some v → Changes old new slot None → Filed old es → i < length es → HoldsAt (λ e. bucket_slot e ≡ slot) es i → Filed new (remove es i)
  bucket_taken old new es slot v i there changes is within mine =
      let e = get_or es i fallback in
      let at : e ≡ get_or es i e = get_or_default es i fallback e within in
      record {
        index = indexes.index-take bucket_slot own slot_entry under (bucket_cmp cmp) (places cmp keys) old slot v there es is.index is.order i e within at (mine fallback) new changes;
        order = subst (IsMap under (bucket_cmp cmp)) (sym (indexes.listed-remove bucket_slot own slot_entry under (bucket_cmp cmp) (places cmp keys) old slot v there es is.index is.order i e within at (mine fallback) new changes))
            (indexes.order-take bucket_slot own slot_entry under (bucket_cmp cmp) (places cmp keys) (listed old es) i v (let long = listed_length old es is in omega arith) is.order);
      }

  -- a version of the same key and bucket in the slot leaves the entries as they are
  pub bucket_swapped : (old new : ℕ → Option X) (es : List BucketEntry) (slot : ℕ) (w v : X) → old slot ≡ Some w → Changes old new slot (Some v) → (seen v).key ≡ (seen w).key → bucket_of v ≡ bucket_of w → Filed old es → Filed new es
  bucket_swapped old new es slot w v there changes key bucket is =
      let inside = is.index.complete slot w there in
      let i = inside.0 in
      let e = get_or es i (own slot w) in
      let at : e ≡ get_or es i e = get_or_default es i (own slot w) e inside.1 in
      let mine : bucket_slot e ≡ slot = ap bucket_slot inside.2 in
      let alike : own slot v ≡ own slot w = λ k. record { number = number_of (bucket k); key = record { head = head_of (key k); slot = slot } } in
      let long = listed_length old es is in
      let here : get_or (listed old es) i w ≡ w = indexes.listed_here bucket_slot own slot_entry under (bucket_cmp cmp) (places cmp keys) old slot w there es is.index is.order i e inside.1 at mine in
      record {
        index = indexes.index-swap bucket_slot own slot_entry under (bucket_cmp cmp) (places cmp keys) old slot w there es is.index is.order i e inside.1 at mine new v changes alike;
        order = subst (IsMap under (bucket_cmp cmp)) (sym (indexes.listed-swap bucket_slot own slot_entry under (bucket_cmp cmp) (places cmp keys) old slot w there es is.index is.order i e inside.1 at mine new v changes alike))
            (indexes.order-set bucket_slot own slot_entry under (bucket_cmp cmp) (places cmp keys) (listed old es) i v w (omega arith) (ap (λ x. (under x).key) here ∙ (λ k. (sym bucket k, Some (sym key k)))) is.order);
      }
