-- The indexes of a store when a version is put in, replaced or taken out, and what searches over them find.
use Rattle.std.proofs.Common.{◌≡◌, ℕ, ◌<◌, ◌≤◌, suc, Bool, true, false, List, [], ◌∷◌, ◌++◌, length, take, drop, get_or, Option, Some, None, refl, sym, ap, ◌∙◌, subst, arith, nat_lt}
use Rattle.std.specs.Prelude.{insert, Result, Ok, Err, IfOk, IfErr}
use Rattle.std.specs.Option.{option_map}
use Rattle.std.specs.List.{HoldsAt, remove}
use Rattle.std.proofs.lemmas.Bool.Decides.{nat_tests}
use Rattle.std.proofs.lemmas.List.{get_or_default, take_all, get_or_past}
use Rattle.std.specs.declared.cmp.Ordering.{Ordering}
use Rattle.std.specs.declared.cmp.Ordering.TheVariants.{Less, Equal, Greater}
use Rattle.std.specs.Ordering.{nat_cmp, ordering_then}
use Rattle.std.specs.Cmp.{IsTotalOrder}
use Rattle.std.proofs.lemmas.Cmp.{nat_cmp_total, on_total, then_total, ranked}
use Rattle.slab.specs.Slab.{Slab, get, Updates}
use Rattle.am_merge.specs.declared.blocks.cursor.Cursor.{Cursor}
use Rattle.am_merge.specs.Rows.{Rows, joined, entries}
use Rattle.am_merge.specs.Cursors.{IsItem, IsWithin, place}
use Rattle.am_merge.specs.Searches.{IsRising, IsFound, IsMissing}
use Rattle.am_merge.proofs.Joined.{length_around, place_inside, block_inside}
use Rattle.am_version_order.specs.Versions.{Version}
use Rattle.am_merge.specs.Maps.{IsMap}
use Rattle.am_merge.specs.Places.{IsPlaceOf, IsGapFor}
use Rattle.am_merge.specs.Indexes.{Changes, filed}
use Rattle.am_merge.specs.Entries.{versions_of, key_slot, expiry_slot, key_entry, expiry_entry, with_slots, by_time, time_cmp, key_order, expiry_order, tie_of}
use Rattle.am_merge.specs.Stores.{IsExpiryIndex, IsKeyIndex}
use Rattle.am_merge.specs.declared.entry.KeyEntry.{KeyEntry}
use Rattle.am_merge.specs.declared.entry.ExpiryEntry.{ExpiryEntry}
use Rattle.am_merge.proofs.Keys.{IsKeyOrder, key_order as order_of_keys}
use Rattle.am_merge.proofs.Indexes as indexes

-- ---- cursors
pub item_within : {T : Type 0} (rows : Rows T) (cursor : Cursor) → IsItem rows cursor → place rows cursor < length (entries rows)
item_within rows cursor item = place_inside rows.blocks cursor.block cursor.offset (block_inside rows.blocks cursor.block cursor.offset item.offset) item.offset

pub cursor_within : {T : Type 0} (rows : Rows T) (cursor : Cursor) → IsWithin rows cursor → place rows cursor ≤ length (entries rows)
cursor_within {T} rows cursor within = by (nat_lt cursor.block (length rows.blocks)) refl where
  by : (t : Bool) → nat_lt cursor.block (length rows.blocks) ≡ t → place rows cursor ≤ length (entries rows)
  by true e =
      let low : cursor.block < length rows.blocks = grind (arith, nat_tests) in
      let parts = length_around rows.blocks cursor.block low in
      let inside = within.offset in
      omega arith
  by false e =
      let high : length rows.blocks ≤ cursor.block = grind (arith, nat_tests) in
      let all : length (joined (take cursor.block rows.blocks)) ≡ length (joined rows.blocks) = ap (λ bs. length (joined bs)) (take_all cursor.block rows.blocks high) in
      let none : length (get_or rows.blocks cursor.block []) ≡ 0 = ap length (get_or_past rows.blocks cursor.block [] high) in
      let inside = within.offset in
      omega arith

-- ---- moments
pub then_equal : (a b : Ordering) → ordering_then a b ≡ Equal → (a ≡ Equal) × (b ≡ Equal)
then_equal Less b h = absurd cc
then_equal Equal b h = (refl, h)
then_equal Greater b h = absurd cc

time_exact : (j k : ℕ × ℕ) → time_cmp j k ≡ Equal → j ≡ k
time_exact j k e =
    let both = then_equal (nat_cmp j.0 k.0) (nat_cmp j.1 k.1) e in
    let first : j.0 ≡ k.0 = ranked j.0 k.0 Equal (sym both.0) in
    let second : j.1 ≡ k.1 = ranked j.1 k.1 Equal (sym both.1) in
    λ i. (first i, second i)

time_total : IsTotalOrder time_cmp
time_total = then_total (on_total (λ (p : ℕ × ℕ). p.0) nat_cmp_total) (on_total (λ (p : ℕ × ℕ). p.1) nat_cmp_total)

pub times : IsKeyOrder time_cmp
times = order_of_keys time_total time_exact

-- ---- tables
pub changes_of : {X : Type 0} (old new : Slab X) (s : ℕ) (o : Option X) → Updates old new s o → Changes (get old) (get new) s o
changes_of old new s o updates = record { changed = updates.changed; others = updates.others }

pub changes_after : {X : Type 0} (old mid new : ℕ → Option X) (s : ℕ) (o p : Option X) → Changes old mid s o → Changes mid new s p → Changes old new s p
changes_after old mid new s o p first second = record { changed = second.changed; others = λ other differs. second.others other differs ∙ first.others other differs }

pub with_slots_changes : {X : Type 0} (old new : ℕ → Option X) (s : ℕ) (o : Option X) → Changes old new s o → Changes (with_slots old) (with_slots new) s (option_map (λ v. (s, v)) o)
with_slots_changes old new s o changes =
    record { changed = ap (option_map (λ v. (s, v))) changes.changed; others = λ other differs. ap (option_map (λ v. (other, v))) (changes.others other differs) }

mapped_is : {X : Type 0} (s : ℕ) (o : Option X) (y : ℕ × X) → option_map (λ v. (s, v)) o ≡ Some y → (y.0 ≡ s) × (o ≡ Some y.1)
mapped_is s None y e = absurd cc
mapped_is s (Some v) y e = let same : (s, v) ≡ y = cc in (ap (λ p. p.0) (sym same), ap (λ p. Some p.1) same)

pub with_slots_is : {X : Type 0} (table : ℕ → Option X) (s : ℕ) (y : ℕ × X) → with_slots table s ≡ Some y → (y.0 ≡ s) × (table s ≡ Some y.1)
with_slots_is table s y e = mapped_is s (table s) y e

pub some_with_slots : {X : Type 0} (table : ℕ → Option X) (s : ℕ) (v : X) → table s ≡ Some v → with_slots table s ≡ Some (s, v)
some_with_slots table s v there = ap (option_map (λ w. (s, w))) there

pub none_with_slots : {X : Type 0} (table : ℕ → Option X) (s : ℕ) → table s ≡ None → with_slots table s ≡ None
none_with_slots table s vacant = ap (option_map (λ w. (s, w))) vacant

key_fallback : KeyEntry
key_fallback = record { head = 0; slot = 0 }

expiry_fallback : ExpiryEntry
expiry_fallback = record { expires = 0; slot = 0 }

module _ {K X : Type 0} (seen : X → Version K) where
  -- ---- the index by expiry
  pub expiry_slot_entry : (s : ℕ) (y : ℕ × X) → expiry_slot (expiry_entry seen s y) ≡ s
  expiry_slot_entry s y = refl

  expiry_agrees : (table : ℕ → Option X) (expires slot : ℕ) (e : ExpiryEntry) (y : ℕ × X) → with_slots table (expiry_slot e) ≡ Some y → e ≡ expiry_entry seen (expiry_slot e) y → expiry_order expires slot e ≡ time_cmp (by_time seen y).key (expires, slot)
  expiry_agrees table expires slot e y there is =
      let same : e.expires ≡ (seen y.1).expires = ap (λ (x : ExpiryEntry). x.expires) is in
      let own : e.slot ≡ y.0 = sym (with_slots_is table e.slot y there).0 in
      λ i. ordering_then (nat_cmp (same i) expires) (nat_cmp (own i) slot)

  pub expiry_rising : (table : ℕ → Option X) (es : List ExpiryEntry) (expires slot : ℕ) → IsExpiryIndex seen table es → IsRising (expiry_order expires slot) es
  expiry_rising table es expires slot is = indexes.rising expiry_slot (expiry_entry seen) expiry_slot_entry (by_time seen) time_cmp times (with_slots table) (expires, slot) (expiry_order expires slot) (expiry_agrees table expires slot) es is.index.sound is.order

  pub expiry_missed : (table : ℕ → Option X) (rows : Rows ExpiryEntry) (expires slot : ℕ) (cursor : Cursor) → IsExpiryIndex seen table (entries rows) → IsMissing (expiry_order expires slot) rows cursor → IsGapFor (by_time seen) time_cmp (filed expiry_slot (with_slots table) (entries rows)) (expires, slot) (place rows cursor)
  expiry_missed table rows expires slot cursor is missing = indexes.missed expiry_slot (expiry_entry seen) expiry_slot_entry (by_time seen) time_cmp times (with_slots table) (expires, slot) (expiry_order expires slot) (expiry_agrees table expires slot) (entries rows) (place rows cursor) is.index.sound (cursor_within rows cursor missing.within) missing.before missing.behind

  -- what is in a slot is found, and at its entry
  pub expiry_never_missed : (table : ℕ → Option X) (rows : Rows ExpiryEntry) (slot : ℕ) (v : X) (cursor : Cursor) → table slot ≡ Some v → IsExpiryIndex seen table (entries rows) → IsMissing (expiry_order (seen v).expires slot) rows cursor → ⊥
  expiry_never_missed table rows slot v cursor there is missing =
      indexes.never-missed expiry_slot (expiry_entry seen) expiry_slot_entry (by_time seen) time_cmp times (with_slots table) slot (slot, v) (some_with_slots table slot v there) (entries rows) is.index is.order (expiry_order (seen v).expires slot) (expiry_agrees table (seen v).expires slot) (place rows cursor) missing.before missing.behind

  -- an empty slot has no entry
  pub expiry_never_met : (table : ℕ → Option X) (rows : Rows ExpiryEntry) (expires slot : ℕ) (cursor : Cursor) → table slot ≡ None → IsExpiryIndex seen table (entries rows) → IsFound (expiry_order expires slot) rows cursor → ⊥
  expiry_never_met table rows expires slot cursor vacant is found =
      let within = item_within rows cursor found.item in
      let e = get_or (entries rows) (place rows cursor) expiry_fallback in
      let tie : time_cmp (e.expires, e.slot) (expires, slot) ≡ Equal = found.equal expiry_fallback in
      let own : e.slot ≡ slot = ap (λ (p : ℕ × ℕ). p.1) (time_exact (e.expires, e.slot) (expires, slot) tie) in
      let names = indexes.sound-at expiry_slot (expiry_entry seen) expiry_slot_entry (with_slots table) (entries rows) (place rows cursor) e is.index.sound within (sym (get_or_default (entries rows) (place rows cursor) expiry_fallback e within)) in
      let there = (with_slots_is table e.slot names.value names.there).1 in
      let none : table e.slot ≡ None = ap table own ∙ vacant in
      cc

  pub expiry_taken : (old new : ℕ → Option X) (es : List ExpiryEntry) (slot : ℕ) (v : X) (i : ℕ) → old slot ≡ Some v → Changes old new slot None → IsExpiryIndex seen old es → i < length es → HoldsAt (λ e. expiry_slot e ≡ slot) es i → IsExpiryIndex seen new (remove es i)
  expiry_taken old new es slot v i there changes is within own =
      let e = get_or es i expiry_fallback in
      let at : e ≡ get_or es i e = get_or_default es i expiry_fallback e within in
      let under = some_with_slots old slot v there in
      let moved = with_slots_changes old new slot None changes in
      record {
        index = indexes.index-take expiry_slot (expiry_entry seen) expiry_slot_entry (by_time seen) time_cmp times (with_slots old) slot (slot, v) under es is.index is.order i e within at (own expiry_fallback) (with_slots new) moved;
        order = subst (IsMap (by_time seen) time_cmp) (sym (indexes.listed-remove expiry_slot (expiry_entry seen) expiry_slot_entry (by_time seen) time_cmp times (with_slots old) slot (slot, v) under es is.index is.order i e within at (own expiry_fallback) (with_slots new) moved))
            (indexes.order-take expiry_slot (expiry_entry seen) expiry_slot_entry (by_time seen) time_cmp times (filed expiry_slot (with_slots old) es) i (slot, v) (let long = indexes.listed-length expiry_slot (expiry_entry seen) expiry_slot_entry (with_slots old) es is.index.sound in omega arith) is.order);
      }

  pub expiry_put : (old new : ℕ → Option X) (es : List ExpiryEntry) (slot : ℕ) (v : X) (i : ℕ) → old slot ≡ None → Changes old new slot (Some v) → IsExpiryIndex seen old es → IsGapFor (by_time seen) time_cmp (filed expiry_slot (with_slots old) es) ((seen v).expires, slot) i → IsExpiryIndex seen new (insert es i (record { expires = (seen v).expires; slot = slot }))
  expiry_put old new es slot v i vacant changes is gap =
      let none = none_with_slots old slot vacant in
      let moved = with_slots_changes old new slot (Some v) changes in
      record {
        index = indexes.index-put expiry_slot (expiry_entry seen) expiry_slot_entry (with_slots old) (with_slots new) slot (slot, v) moved none es is.index i;
        order = subst (IsMap (by_time seen) time_cmp) (sym (indexes.listed-put expiry_slot (expiry_entry seen) expiry_slot_entry (with_slots old) (with_slots new) slot (slot, v) moved none es is.index i))
            (indexes.order-put expiry_slot (expiry_entry seen) expiry_slot_entry (by_time seen) time_cmp times (filed expiry_slot (with_slots old) es) (slot, v) i is.order gap);
      }

  -- ---- the index by key
  module _ (head_of : K → ℕ) (cmp : K → K → Ordering) (keys : IsKeyOrder cmp) where
    pub key_slot_entry : (s : ℕ) (v : X) → key_slot (key_entry seen head_of s v) ≡ s
    key_slot_entry s v = refl

    module _ (heads : (x y : K) → ordering_then (nat_cmp (head_of x) (head_of y)) (cmp x y) ≡ cmp x y) (table : ℕ → Option X) (key : K) (head : ℕ) (head_is : head ≡ head_of key) where
      key_agrees : (e : KeyEntry) (v : X) → table (key_slot e) ≡ Some v → e ≡ key_entry seen head_of (key_slot e) v → key_order seen cmp table head key e ≡ cmp (seen v).key key
      key_agrees e v there is =
          let own : e.head ≡ head_of (seen v).key = ap (λ (x : KeyEntry). x.head) is in
          (λ i. ordering_then (nat_cmp (own i) (head_is i)) (tie_of seen cmp (there i) key)) ∙ heads (seen v).key key

      pub key_rising : (es : List KeyEntry) → IsKeyIndex seen head_of cmp table es → IsRising (key_order seen cmp table head key) es
      key_rising es is = indexes.rising key_slot (key_entry seen head_of) key_slot_entry seen cmp keys table key (key_order seen cmp table head key) key_agrees es is.index.sound is.order

      pub key_missed : (rows : Rows KeyEntry) (cursor : Cursor) → IsKeyIndex seen head_of cmp table (entries rows) → IsMissing (key_order seen cmp table head key) rows cursor → IsGapFor seen cmp (versions_of table (entries rows)) key (place rows cursor)
      key_missed rows cursor is missing = indexes.missed key_slot (key_entry seen head_of) key_slot_entry seen cmp keys table key (key_order seen cmp table head key) key_agrees (entries rows) (place rows cursor) is.index.sound (cursor_within rows cursor missing.within) missing.before missing.behind

      pub key_met : (rows : Rows KeyEntry) (cursor : Cursor) → IsKeyIndex seen head_of cmp table (entries rows) → IsFound (key_order seen cmp table head key) rows cursor → IsPlaceOf seen cmp (versions_of table (entries rows)) key (place rows cursor)
      key_met rows cursor is found =
          let within = item_within rows cursor found.item in
          let e = get_or (entries rows) (place rows cursor) key_fallback in
          indexes.met key_slot (key_entry seen head_of) key_slot_entry seen cmp keys table key (key_order seen cmp table head key) key_agrees (entries rows) (place rows cursor) e is.index.sound within (get_or_default (entries rows) (place rows cursor) key_fallback e within) (found.equal key_fallback)

    module _ (heads : (x y : K) → ordering_then (nat_cmp (head_of x) (head_of y)) (cmp x y) ≡ cmp x y) (table : ℕ → Option X) (slot : ℕ) (v : X) (there : table slot ≡ Some v) (head : ℕ) (head_is : head ≡ head_of (seen v).key) (rows : Rows KeyEntry) (cursor : Cursor) (is : IsKeyIndex seen head_of cmp table (entries rows)) where
      pub key_never_missed : IsMissing (key_order seen cmp table head (seen v).key) rows cursor → ⊥
      key_never_missed missing = indexes.never-missed key_slot (key_entry seen head_of) key_slot_entry seen cmp keys table slot v there (entries rows) is.index is.order (key_order seen cmp table head (seen v).key) (key_agrees heads table (seen v).key head head_is) (place rows cursor) missing.before missing.behind

      pub key_met_own : IsFound (key_order seen cmp table head (seen v).key) rows cursor → HoldsAt (λ e. key_slot e ≡ slot) (entries rows) (place rows cursor)
      key_met_own found = indexes.met-own key_slot (key_entry seen head_of) key_slot_entry seen cmp keys table slot v there (entries rows) is.index is.order (key_order seen cmp table head (seen v).key) (key_agrees heads table (seen v).key head head_is) (place rows cursor) (item_within rows cursor found.item) found.equal

    pub key_named_at : (table : ℕ → Option X) (es : List KeyEntry) (i : ℕ) (e : KeyEntry) (v : X) → IsKeyIndex seen head_of cmp table es → i < length es → get_or es i e ≡ e → table e.slot ≡ Some v → get_or (versions_of table es) i v ≡ v
    key_named_at table es i e v is within at there = indexes.listed-at key_slot (key_entry seen head_of) key_slot_entry table es i e v is.index.sound within at there

    pub versions_length : (table : ℕ → Option X) (es : List KeyEntry) → IsKeyIndex seen head_of cmp table es → length (versions_of table es) ≡ length es
    versions_length table es is = indexes.listed-length key_slot (key_entry seen head_of) key_slot_entry table es is.index.sound

    -- no two slots have versions of one key
    pub key_unique : (table : ℕ → Option X) (es : List KeyEntry) (s t : ℕ) (v w : X) → IsKeyIndex seen head_of cmp table es → table s ≡ Some v → table t ≡ Some w → (seen v).key ≡ (seen w).key → s ≡ t
    key_unique table es s t v w is here there key =
        let inside = is.index.complete s v here in
        let e = key_entry seen head_of s v in
        let side = (indexes.sides key_slot (key_entry seen head_of) key_slot_entry seen cmp keys table t w there es is.index is.order inside.0 e inside.1 (sym inside.2)).1.0 in
        let same : v ≡ side.value = indexes.some_is (sym here ∙ side.there) in
        indexes.same-slot key_slot (key_entry seen head_of) key_slot_entry seen cmp keys table t w there es is.index is.order inside.0 e inside.1 (sym inside.2) (ap (λ x. (seen x).key) (sym same) ∙ key)

    module _ (old new : ℕ → Option X) (es : List KeyEntry) (slot : ℕ) (v : X) (is : IsKeyIndex seen head_of cmp old es) (i : ℕ) where
      pub versions_put : old slot ≡ None → Changes old new slot (Some v) → versions_of new (insert es i (key_entry seen head_of slot v)) ≡ insert (versions_of old es) i v
      versions_put vacant changes = indexes.listed-put key_slot (key_entry seen head_of) key_slot_entry old new slot v changes vacant es is.index i

      pub key_put : old slot ≡ None → Changes old new slot (Some v) → IsGapFor seen cmp (versions_of old es) (seen v).key i → IsKeyIndex seen head_of cmp new (insert es i (key_entry seen head_of slot v))
      key_put vacant changes gap =
          record {
            index = indexes.index-put key_slot (key_entry seen head_of) key_slot_entry old new slot v changes vacant es is.index i;
            order = subst (IsMap seen cmp) (sym (versions_put vacant changes)) (indexes.order-put key_slot (key_entry seen head_of) key_slot_entry seen cmp keys (versions_of old es) v i is.order gap);
          }

    module _ (old new : ℕ → Option X) (es : List KeyEntry) (slot : ℕ) (v : X) (is : IsKeyIndex seen head_of cmp old es) (i : ℕ) (there : old slot ≡ Some v) (within : i < length es) (own : HoldsAt (λ e. key_slot e ≡ slot) es i) where
      abbrev here : KeyEntry
      here = get_or es i key_fallback

      at_here : here ≡ get_or es i here
      at_here = get_or_default es i key_fallback here within

      pub versions_taken : Changes old new slot None → versions_of new (remove es i) ≡ remove (versions_of old es) i
      versions_taken changes = indexes.listed-remove key_slot (key_entry seen head_of) key_slot_entry seen cmp keys old slot v there es is.index is.order i here within at_here (own key_fallback) new changes

      within_versions : i < length (versions_of old es)
      within_versions = let long = versions_length old es is in omega arith

      pub key_taken : Changes old new slot None → IsKeyIndex seen head_of cmp new (remove es i)
      key_taken changes =
          record {
            index = indexes.index-take key_slot (key_entry seen head_of) key_slot_entry seen cmp keys old slot v there es is.index is.order i here within at_here (own key_fallback) new changes;
            order = subst (IsMap seen cmp) (sym (versions_taken changes)) (indexes.order-take key_slot (key_entry seen head_of) key_slot_entry seen cmp keys (versions_of old es) i v within_versions is.order);
          }

      pub version_here : get_or (versions_of old es) i v ≡ v
      version_here = indexes.listed_here key_slot (key_entry seen head_of) key_slot_entry seen cmp keys old slot v there es is.index is.order i here within at_here (own key_fallback)

      module _ (w : X) (changes : Changes old new slot (Some w)) (key : (seen w).key ≡ (seen v).key) where
        alike : key_entry seen head_of slot w ≡ key_entry seen head_of slot v
        alike = ap (λ k. record { head = head_of k; slot = slot }) key

        pub versions_swapped : versions_of new es ≡ take i (versions_of old es) ++ w ∷ drop (suc i) (versions_of old es)
        versions_swapped = indexes.listed-swap key_slot (key_entry seen head_of) key_slot_entry seen cmp keys old slot v there es is.index is.order i here within at_here (own key_fallback) new w changes alike

        pub key_swapped : IsKeyIndex seen head_of cmp new es
        key_swapped =
            record {
              index = indexes.index-swap key_slot (key_entry seen head_of) key_slot_entry seen cmp keys old slot v there es is.index is.order i here within at_here (own key_fallback) new w changes alike;
              order = subst (IsMap seen cmp) (sym versions_swapped) (indexes.order-set key_slot (key_entry seen head_of) key_slot_entry seen cmp keys (versions_of old es) i w v within_versions (ap (λ x. (seen x).key) version_here ∙ sym key) is.order);
            }

-- what holds of an answer that is Ok, or Err
pub if_ok : {A B : Type 0} (P Q : A → Type 0) → ((a : A) → P a → Q a) → (r : Result A B) → IfOk r P → IfOk r Q
if_ok P Q weaker (Ok a) holds = weaker a holds
if_ok P Q weaker (Err b) holds = tt

pub if_err : {A B : Type 0} (P Q : B → Type 0) → ((b : B) → P b → Q b) → (r : Result A B) → IfErr r P → IfErr r Q
if_err P Q weaker (Ok a) holds = tt
if_err P Q weaker (Err b) holds = weaker b holds
