-- A store when a version is put in, replaced or taken out.
use Rattle.std.proofs.Common.{◌≡◌, ℕ, ◌<◌, ◌≤◌, ◌+◌, zero, suc, Bool, true, false, cond, append_assoc, List, [], ◌∷◌, ◌++◌, length, take, drop, get_or, set, Option, Some, None, refl, sym, ap, ◌∙◌, subst, arith, inl, inr}
use Rattle.std.specs.Prelude.{insert, slice_index_or, count_by, is_some, is_none, if◌then◌else◌, Result, Ok, Err, OnOk}
use Rattle.std.specs.List.{HoldsAt, remove}
use Rattle.std.proofs.lemmas.List.{set_split, take_all, drop_all}
use Rattle.std.proofs.lemmas.List.Elements.{All-from_recursion, All-nil}
use Rattle.std.specs.List.{All}
use Rattle.std.specs.declared.cmp.Ordering.TheVariants.{Less}
use Rattle.std.specs.Ordering.{is_lt, eq_by_cmp}
use Rattle.std.proofs.lemmas.List.Edits.{length-insert, length-remove}
use Rattle.std.specs.declared.cmp.Ordering.{Ordering}
use Rattle.slab.specs.Slab.{Slab, get, slab_len, Updates}
use Rattle.am_merge.specs.declared.blocks.cursor.Cursor.{Cursor}
use Rattle.am_merge.specs.Rows.{Rows, joined, entries, HasRoom}
use Rattle.am_merge.specs.Cursors.{IsItem, place}
use Rattle.am_version_order.specs.Versions.{Version, is_below, rank_cmp}
use Rattle.am_merge.specs.Maps.{IsMap, at, replaces, greater_of, is_above}
use Rattle.am_merge.specs.Takings.{IsPut, new_keys, new_versions}
use Rattle.am_merge.specs.Places.{IsPlaceOf, IsGapFor}
use Rattle.am_merge.specs.Indexes.{Changes, filed}
use Rattle.am_merge.specs.Entries.{versions_of, key_slot, expiry_slot, key_entry, with_slots, by_time, time_cmp}
use Rattle.am_merge.specs.Buckets.{bucket_slot, bucket_entry, by_bucket, bucket_cmp}
use Rattle.am_merge.specs.Stores.{versions, IsAbsent, IsExpiryIndex, IsKeyIndex, IsBucketIndex, IsKeyed, IsStore, keyed, IsKeyCursor, IsGapCursor, IsSlotAt, IsWithout, HasRooms}
use Rattle.am_merge.specs.declared.entry.KeyEntry.{KeyEntry}
use Rattle.am_merge.specs.declared.entry.BucketEntry.{BucketEntry}
use Rattle.am_merge.specs.declared.entry.ExpiryEntry.{ExpiryEntry}
use Rattle.am_merge.specs.declared.store.Store.{Store}
use Rattle.am_merge.proofs.Keys.{IsKeyOrder, IsMap-without, both_parts, eq_itself}
use Rattle.am_merge.proofs.Puts.{cut_at, place_over, place_nowhere, at-member, at_found, at_absent}
use Rattle.am_merge.proofs.Firsts.{version_inside}
use Rattle.am_merge.proofs.Buckets.{bucket_put, bucket_taken, bucket_swapped}
use Rattle.std.proofs.lemmas.Bool.{cases_eq}
use Rattle.am_merge.proofs.Stores.{item_within, cursor_within, changes_of, changes_after, expiry_taken, expiry_put, key_put, versions_put, key_taken, versions_taken, version_here, versions_swapped, key_swapped, key_unique, versions_length}

-- the table of the one slab is that of the other
table_is : {X : Type 0} (old new : Slab X) → new.slots ≡ old.slots → get old ≡ get new
table_is old new slots = λ i key. slice_index_or (sym slots i) key None

module _ {K X : Type 0} (seen : X → Version K) where
  pub taken_out : (old new : Slab X) (rows after : Rows ExpiryEntry) (slot : ℕ) (v : X) (cursor : Cursor) → get old slot ≡ Some v → Updates old new slot None → IsExpiryIndex seen (get old) (entries rows) → IsItem rows cursor → HoldsAt (λ e. expiry_slot e ≡ slot) (entries rows) (place rows cursor) → entries after ≡ remove (entries rows) (place rows cursor) → IsExpiryIndex seen (get new) (entries after)
  taken_out old new rows after slot v cursor there updates is item own left =
      subst (IsExpiryIndex seen (get new)) (sym left) (expiry_taken seen (get old) (get new) (entries rows) slot v (place rows cursor) there (changes_of old new slot None updates) is (item_within rows cursor item) own)

  pub put_in : (old new : Slab X) (rows after : Rows ExpiryEntry) (slot given expires : ℕ) (v : X) (cursor : Cursor) → get old slot ≡ None → Updates old new given (Some v) → given ≡ slot → expires ≡ (seen v).expires → IsExpiryIndex seen (get old) (entries rows) → IsGapFor (by_time seen) time_cmp (filed expiry_slot (with_slots (get old)) (entries rows)) (expires, slot) (place rows cursor) → entries after ≡ insert (entries rows) (place rows cursor) (record { expires = expires; slot = slot }) → IsExpiryIndex seen (get new) (entries after)
  put_in old new rows after slot given expires v cursor vacant updates same moment is gap left =
      let known : entries after ≡ insert (entries rows) (place rows cursor) (record { expires = (seen v).expires; slot = slot }) = left ∙ ap (λ t. insert (entries rows) (place rows cursor) (record { expires = t; slot = slot })) moment in
      subst (IsExpiryIndex seen (get new)) (sym known)
      (expiry_put seen (get old) (get new) (entries rows) slot v (place rows cursor) vacant
      (changes_of old new slot (Some v) (subst (λ s. Updates old new s (Some v)) same updates)) is
      (subst (λ t. IsGapFor (by_time seen) time_cmp (filed expiry_slot (with_slots (get old)) (entries rows)) (t, slot) (place rows cursor)) moment gap))

  -- ---- the index by key
  module _ (head_of : K → ℕ) (cmp : K → K → Ordering) (keys : IsKeyOrder cmp) where
    abbrev Keyed : Store X → Type 0
    Keyed store = IsKeyed seen head_of cmp store

    -- the version at a cursor has its key
    pub cursor_key : (old : Store X) (key : K) (cursor : Cursor) (slot : ℕ) (w : X) → Keyed old → IsKeyCursor seen cmp old key cursor → IsSlotAt old.keys cursor slot → get old.table slot ≡ Some w → (seen w).key ≡ key
    cursor_key old key cursor slot w is at own there =
        ap (λ x. (seen x).key) (sym (version_here seen head_of cmp keys (get old.table) (get old.table) (entries old.keys) slot w is.index (place old.keys cursor) there (item_within old.keys cursor at.item) own)) ∙ at.place.here w

    module _ (old mid : Store X) (after : Rows KeyEntry) (slot head : ℕ) (v : X) (cursor : Cursor) (is : Keyed old) (gap : IsGapCursor seen cmp old (seen v).key cursor) (vacant : get old.table slot ≡ None) (updates : Updates old.table mid.table slot (Some v)) (same : mid.keys ≡ old.keys) (head_is : head ≡ head_of (seen v).key) (put : entries after ≡ insert (entries mid.keys) (place mid.keys cursor) (record { head = head; slot = slot })) where
      known : entries after ≡ insert (entries old.keys) (place old.keys cursor) (key_entry seen head_of slot v)
      known = put ∙ (λ i. insert (entries (same i)) (place (same i) cursor) (record { head = head_is i; slot = slot }))

      changes : Changes (get old.table) (get mid.table) slot (Some v)
      changes = changes_of old.table mid.table slot (Some v) updates

      pub added_versions : versions_of (get mid.table) (entries after) ≡ insert (versions old) (place old.keys cursor) v
      added_versions = ap (versions_of (get mid.table)) known ∙ versions_put seen head_of cmp keys (get old.table) (get mid.table) (entries old.keys) slot v is.index (place old.keys cursor) vacant changes

      pub added_keyed : slab_len mid.table ≡ slab_len old.table + 1 → Keyed (record mid { keys = after })
      added_keyed long =
          record {
            index = subst (IsKeyIndex seen head_of cmp (get mid.table)) (sym known) (key_put seen head_of cmp keys (get old.table) (get mid.table) (entries old.keys) slot v is.index (place old.keys cursor) vacant changes gap.gap);
            count = let longer = length-insert (entries old.keys) (place old.keys cursor) (key_entry seen head_of slot v) (cursor_within old.keys cursor gap.within) in let count = is.count in let now = ap length known in omega arith;
          }

    module _ (old mid new : Store X) (slot : ℕ) (w v : X) (cursor : Cursor) (is : Keyed old) (at : IsKeyCursor seen cmp old (seen v).key cursor) (own : IsSlotAt old.keys cursor slot) (there : get old.table slot ≡ Some w) (out : Updates old.table mid.table slot None) (back : Updates mid.table new.table slot (Some v)) (same_mid : mid.keys ≡ old.keys) (same_new : new.keys ≡ mid.keys) where
      within : place old.keys cursor < length (entries old.keys)
      within = item_within old.keys cursor at.item

      swap : Changes (get old.table) (get new.table) slot (Some v)
      swap = changes_after (get old.table) (get mid.table) (get new.table) slot None (Some v) (changes_of old.table mid.table slot None out) (changes_of mid.table new.table slot (Some v) back)

      same_key : (seen v).key ≡ (seen w).key
      same_key = sym (cursor_key old (seen v).key cursor slot w is at own there)

      rows_same : entries new.keys ≡ entries old.keys
      rows_same = ap entries (same_new ∙ same_mid)

      pub replaced_versions : versions new ≡ set (versions old) (place old.keys cursor) v
      replaced_versions =
          ap (versions_of (get new.table)) rows_same
          ∙ versions_swapped seen head_of cmp keys (get old.table) (get new.table) (entries old.keys) slot w is.index (place old.keys cursor) there within own v swap same_key
          ∙ sym (set_split (versions old) (place old.keys cursor) v (let long = versions_length seen head_of cmp keys (get old.table) (entries old.keys) is.index in let low = within in omega arith))

      pub replaced_keyed : slab_len mid.table + 1 ≡ slab_len old.table → slab_len new.table ≡ slab_len mid.table + 1 → Keyed new
      replaced_keyed less more =
          record {
            index = subst (IsKeyIndex seen head_of cmp (get new.table)) (sym rows_same) (key_swapped seen head_of cmp keys (get old.table) (get new.table) (entries old.keys) slot w is.index (place old.keys cursor) there within own v swap same_key);
            count = let count = is.count in let now = ap length rows_same in omega arith;
          }

    -- a store with the same slots and the same blocks of keys
    pub moved_keyed : (old new : Store X) → new.table.slots ≡ old.table.slots → new.keys.blocks ≡ old.keys.blocks → Keyed old → Keyed new
    moved_keyed old new slots key_blocks is =
        record {
          index = subst (λ t. IsKeyIndex seen head_of cmp t (entries new.keys)) (table_is old.table new.table slots) (subst (IsKeyIndex seen head_of cmp (get old.table)) (ap joined (sym key_blocks)) is.index);
          count = ap (count_by is_some) slots ∙ is.count ∙ ap (λ bs. length (joined bs)) (sym key_blocks);
        }

  module _ (head_of : K → ℕ) (cmp : K → K → Ordering) (keys : IsKeyOrder cmp) (bucket_of : X → List ℕ) where
    abbrev Whole : Store X → Type 0
    Whole store = IsStore seen head_of cmp bucket_of store

    abbrev Filed : (ℕ → Option X) → List BucketEntry → Type 0
    Filed table es = IsBucketIndex seen head_of cmp bucket_of table es

    -- ---- the index by bucket
    pub filed_put : (old new : Slab X) (rows mid after : Rows BucketEntry) (slot given : ℕ) (v : X) (e : BucketEntry) (cursor : Cursor) → get old slot ≡ None → Updates old new slot (Some v) → Filed (get old) (entries rows) → IsGapFor (by_bucket seen bucket_of) (bucket_cmp cmp) (filed bucket_slot (get old) (entries rows)) (by_bucket seen bucket_of v).key (place rows cursor) → mid ≡ rows → e ≡ bucket_entry seen bucket_of head_of given v → given ≡ slot → entries after ≡ insert (entries mid) (place mid cursor) e → Filed (get new) (entries after)
    filed_put old new rows mid after slot given v e cursor vacant updates is gap same entry_is slot_is put =
        let known : entries after ≡ insert (entries rows) (place rows cursor) (bucket_entry seen bucket_of head_of slot v) =
        put ∙ (λ i. insert (entries (same i)) (place (same i) cursor) (entry_is i)) ∙ ap (λ s. insert (entries rows) (place rows cursor) (bucket_entry seen bucket_of head_of s v)) slot_is in
        subst (Filed (get new)) (sym known) (bucket_put seen head_of cmp keys bucket_of (get old) (get new) (entries rows) slot v (place rows cursor) vacant (changes_of old new slot (Some v) updates) is gap)

    pub filed_taken : (old new : Slab X) (rows mid after : Rows BucketEntry) (slot : ℕ) (w : X) (cursor : Cursor) → get old slot ≡ Some w → Updates old new slot None → Filed (get old) (entries rows) → IsItem rows cursor → HoldsAt (λ e. bucket_slot e ≡ slot) (entries rows) (place rows cursor) → mid ≡ rows → entries after ≡ remove (entries mid) (place mid cursor) → Filed (get new) (entries after)
    filed_taken old new rows mid after slot w cursor there out is item own same left =
        let known : entries after ≡ remove (entries rows) (place rows cursor) = left ∙ (λ i. remove (entries (same i)) (place (same i) cursor)) in
        subst (Filed (get new)) (sym known) (bucket_taken seen head_of cmp keys bucket_of (get old) (get new) (entries rows) slot w (place rows cursor) there (changes_of old new slot None out) is (item_within rows cursor item) own)

    pub filed_swapped : (old mid new : Slab X) (rows after : Rows BucketEntry) (slot : ℕ) (w v : X) → get old slot ≡ Some w → Updates old mid slot None → Updates mid new slot (Some v) → (seen v).key ≡ (seen w).key → bucket_of v ≡ bucket_of w → Filed (get old) (entries rows) → after ≡ rows → Filed (get new) (entries after)
    filed_swapped old mid new rows after slot w v there out back key bucket is same =
        subst (λ r. Filed (get new) (entries r)) (sym same)
        (bucket_swapped seen head_of cmp keys bucket_of (get old) (get new) (entries rows) slot w v there
        (changes_after (get old) (get mid) (get new) slot None (Some v) (changes_of old mid slot None out) (changes_of mid new slot (Some v) back)) key bucket is)

    -- ---- keys that no slot has
    pub gap_absent : (store : Store X) (key : K) (cursor : Cursor) → Whole store → IsGapCursor seen cmp store key cursor → IsAbsent seen (get store.table) key
    gap_absent store key cursor is gap slot v there same =
        let here = at-member seen cmp keys (versions store) v is.keys.order (version_inside seen (get store.table) head_of cmp (entries store.keys) is.keys slot v there) in
        let nothing = at_absent seen cmp keys (versions store) key (place store.keys cursor) gap.gap in
        let found : at seen cmp (versions store) key ≡ Some v = ap (λ k. at seen cmp (versions store) k) (sym same) ∙ here in
        cc

    pub taken_absent : (old : Store X) (mid : Slab X) (slot : ℕ) (w : X) (key : K) → Whole old → get old.table slot ≡ Some w → (seen w).key ≡ key → Updates old.table mid slot None → IsAbsent seen (get mid) key
    taken_absent old mid slot w key is there own out s v here same = elim (cases_eq s slot) [
      | inl met ↦ let none : get mid s ≡ None = ap (get mid) met ∙ out.changed in cc
      | inr differs ↦ differs (key_unique seen head_of cmp keys (get old.table) (entries old.keys) s slot v w is.keys (sym (out.others s differs) ∙ here) there (same ∙ sym own))
    ]

    module _ (old mid : Store X) (after : Rows KeyEntry) (slot : ℕ) (w : X) (cursor : Cursor) (is : Whole old) (item : IsItem old.keys cursor) (own : HoldsAt (λ e. key_slot e ≡ slot) (entries old.keys) (place old.keys cursor)) (there : get old.table slot ≡ Some w) (out : Updates old.table mid.table slot None) (same : mid.keys ≡ old.keys) (left : entries after ≡ remove (entries mid.keys) (place mid.keys cursor)) where
      known_left : entries after ≡ remove (entries old.keys) (place old.keys cursor)
      known_left = left ∙ (λ i. remove (entries (same i)) (place (same i) cursor))

      inside : place old.keys cursor < length (entries old.keys)
      inside = item_within old.keys cursor item

      gone : Changes (get old.table) (get mid.table) slot None
      gone = changes_of old.table mid.table slot None out

      pub dropped_versions : IsWithout w (versions old) (versions_of (get mid.table) (entries after))
      dropped_versions =
          record {
            front = take (place old.keys cursor) (versions old);
            back = drop (suc (place old.keys cursor)) (versions old);
            before = cut_at (versions old) (place old.keys cursor) w (let long = versions_length seen head_of cmp keys (get old.table) (entries old.keys) is.keys in let low = inside in omega arith) (sym (version_here seen head_of cmp keys (get old.table) (get mid.table) (entries old.keys) slot w is.keys (place old.keys cursor) there inside own));
            after = ap (versions_of (get mid.table)) known_left ∙ versions_taken seen head_of cmp keys (get old.table) (get mid.table) (entries old.keys) slot w is.keys (place old.keys cursor) there inside own gone;
          }

      pub dropped : (rows : Rows BucketEntry) → IsExpiryIndex seen (get mid.table) (entries mid.expiries) → Filed (get mid.table) (entries rows) → slab_len mid.table + 1 ≡ slab_len old.table → Whole (record mid { keys = after; buckets = rows })
      dropped rows expiries buckets less =
          record {
            keys = subst (IsKeyIndex seen head_of cmp (get mid.table)) (sym known_left) (key_taken seen head_of cmp keys (get old.table) (get mid.table) (entries old.keys) slot w is.keys (place old.keys cursor) there inside own gone);
            expiries = expiries;
            buckets = buckets;
            count = let shorter = length-remove (entries old.keys) (place old.keys cursor) inside in let count = is.count in let now = ap length known_left in omega arith;
          }

    -- a store with the same slots and the same blocks
    pub moved : (old new : Store X) → new.table.slots ≡ old.table.slots → new.keys.blocks ≡ old.keys.blocks → new.expiries.blocks ≡ old.expiries.blocks → new.buckets.blocks ≡ old.buckets.blocks → Whole old → Whole new
    moved old new slots key_blocks expiry_blocks bucket_blocks is =
        let table = table_is old.table new.table slots in
        let by_key = moved_keyed head_of cmp keys old new slots key_blocks (keyed seen head_of cmp bucket_of is) in
        record {
          keys = by_key.index;
          expiries = subst (λ t. IsExpiryIndex seen t (entries new.expiries)) table (subst (IsExpiryIndex seen (get old.table)) (ap joined (sym expiry_blocks)) is.expiries);
          buckets = subst (λ t. Filed t (entries new.buckets)) table (subst (Filed (get old.table)) (ap joined (sym bucket_blocks)) is.buckets);
          count = by_key.count;
        }

-- room for more is room for less
pub less_room : {T : Type 0} (rows : Rows T) (n : ℕ) → HasRoom rows (n + 1) → HasRoom rows n
less_room rows n room = let spares = room.spares in let places = room.places in record { spares = omega arith; places = omega arith }

pub count_is : {K X : Type 0} (seen : X → Version K) (head_of : K → ℕ) (cmp : K → K → Ordering) (keys : IsKeyOrder cmp) (bucket_of : X → List ℕ) (store : Store X) → IsStore seen head_of cmp bucket_of store → slab_len store.table ≡ length (versions store)
count_is seen head_of cmp keys bucket_of store is = is.count ∙ sym (versions_length seen head_of cmp keys (get store.table) (entries store.keys) is.keys)

module _ {K X : Type 0} (seen : X → Version K) (cmp : K → K → Ordering) (keys : IsKeyOrder cmp) where
  -- whether a version is greater than the one of its key
  pub judged : (map : List X) (i : ℕ) (v w : X) → IsMap seen cmp map → i < length map → w ≡ get_or map i w → (seen w).key ≡ (seen v).key → (r : Bool) → r ≡ is_lt (rank_cmp (seen w) (seen v)) → (r ≡ replaces seen cmp map v) × ((r ≡ false → IsPut seen cmp map v map) × (r ≡ true → IsPut seen cmp map v (set map i v)))
  unfolding is_below
  judged map i v w is_map within is key true e =
      let over = place_over seen cmp keys map i v w is_map within is key (sym e) in
      (sym over.1, ((λ no. absurd cc), λ _. over.0))
  judged map i v w is_map within is key false e =
      let stays = place_nowhere seen cmp keys map i v w is_map within is key (sym e) in
      (sym stays.1, ((λ _. stays.0), λ yes. absurd cc))

  -- the gap behind all
  pub end_gap : (xs : List X) (v : X) (i : ℕ) → i ≡ length xs → IsMap seen cmp (xs ++ v ∷ []) → IsGapFor seen cmp xs (seen v).key i
  end_gap xs v i end order =
      let low = (IsMap-without seen cmp keys v xs [] order).1.below in
      record {
        in_range = omega arith;
        below = subst (All (λ w. cmp (seen w).key (seen v).key ≡ Less)) (sym (take_all i xs (omega arith))) (All-from_recursion (λ w. cmp (seen w).key (seen v).key ≡ Less) xs low);
        above = subst (All (λ w. cmp (seen v).key (seen w).key ≡ Less)) (sym (drop_all i xs (omega arith))) (All-nil (λ w. cmp (seen v).key (seen w).key ≡ Less));
      }

  -- a list in order is so up to each of its elements
  pub order_front : (front : List X) (v : X) (back whole : List X) → front ++ v ∷ back ≡ whole → IsMap seen cmp whole → IsMap seen cmp (front ++ v ∷ [])
  order_front front v back whole is order =
      let joined : (front ++ v ∷ []) ++ back ≡ whole = append_assoc front (v ∷ []) back ∙ is in
      front_of (front ++ v ∷ []) back (subst (IsMap seen cmp) (sym joined) order)
    where
      front_of : (xs ys : List X) → IsMap seen cmp (xs ++ ys) → IsMap seen cmp xs
      front_of [] ys order = tt
      front_of (x ∷ xs) ys order = ((both_parts (λ w. cmp (seen x).key (seen w).key ≡ Less) xs ys order.0).0, front_of xs ys order.1)

pub end_insert : {X : Type 0} (xs : List X) (v : X) (i : ℕ) → i ≡ length xs → insert xs i v ≡ xs ++ v ∷ []
end_insert xs v i end = let past : length xs ≤ i = omega arith in λ k. take_all i xs past k ++ v ∷ drop_all i xs past k

pub on_ok : {A E : Type 0} {P Q : Type 0} → (P → Q) → (r : Result A E) → OnOk r P → OnOk r Q
on_ok f (Ok a) holds = f holds
on_ok f (Err e) holds = tt

-- the element at a place
pub element : {X : Type 0} (xs : List X) (i : ℕ) → i < length xs → (x : X) × (x ≡ get_or xs i x)
element [] i within = absurd (omega arith)
element (x ∷ xs) zero within = (x, refl)
element (x ∷ xs) (suc i) within = element xs i (omega arith)

-- room for so many is room for fewer
pub fewer_rooms : {X : Type 0} (store : Store X) (n m k l : ℕ) → k ≤ n → l ≤ m → HasRooms store n m → HasRooms store k l
fewer_rooms store n m k l fewer few room =
    record { table = let have = room.table in omega arith; keys = at_most store.keys n k fewer room.keys; expiries = at_most store.expiries m l few room.expiries; buckets = at_most store.buckets m l few room.buckets }
  where
    at_most : {T : Type 0} (rows : Rows T) (n k : ℕ) → k ≤ n → HasRoom rows n → HasRoom rows k
    at_most rows n k less room = let spares = room.spares in let places = room.places in record { spares = omega arith; places = omega arith }

-- ---- how many keys and versions come with a version
module _ {K X : Type 0} (seen : X → Version K) (cmp : K → K → Ordering) (keys : IsKeyOrder cmp) where
  pub no_key : (map : List X) (v : X) (i : ℕ) → IsMap seen cmp map → IsPlaceOf seen cmp map (seen v).key i → new_keys seen cmp map v ≡ 0
  no_key map v i order at = let w = element map i at.in_range in ap (λ o. if is_none o then 1 else 0) (at_found seen cmp keys map (seen v).key i w.0 order at w.1)

  pub one_key : (map : List X) (v : X) (i : ℕ) → IsGapFor seen cmp map (seen v).key i → new_keys seen cmp map v ≡ 1
  one_key map v i gap = ap (λ o. if is_none o then 1 else 0) (at_absent seen cmp keys map (seen v).key i gap)

  pub versions_by : (map : List X) (v : X) (b : Bool) → replaces seen cmp map v ≡ b → new_versions seen cmp map v ≡ (if b then 1 else 0)
  versions_by map v b e = ap (λ c. if c then 1 else 0) e

  abbrev one_if : Bool → ℕ
  one_if b = if b then 1 else 0

  -- what comes with a version once another was taken, of another key or of its own
  module _ (map new : List X) (v w : X) (put : IsPut seen cmp map v new) where
    apart_is : (o : Option X) (b : Bool) → b ≡ false → greater_of seen o (cond b (Some v) None) ≡ o
    apart_is o true e = cc
    apart_is None false e = refl
    apart_is (Some u) false e = refl

    same_at : eq_by_cmp cmp (seen v).key (seen w).key ≡ false → at seen cmp new (seen w).key ≡ at seen cmp map (seen w).key
    same_at apart = put.joined (seen w).key ∙ apart_is (at seen cmp map (seen w).key) (eq_by_cmp cmp (seen v).key (seen w).key) apart

    greater_is : (o : Option X) (b : Bool) → is_above seen o v ≡ b → greater_of seen o (Some v) ≡ cond b (Some v) o
    greater_is None b above = ap (λ c. cond c (Some v) None) above
    greater_is (Some u) b above = ap (λ c. cond c (Some v) (Some u)) above

    own_at : (seen v).key ≡ (seen w).key → (b : Bool) → replaces seen cmp map v ≡ b → at seen cmp new (seen w).key ≡ cond b (Some v) (at seen cmp map (seen w).key)
    own_at key b came =
        put.joined (seen w).key
        ∙ ap (λ c. greater_of seen (at seen cmp map (seen w).key) (cond c (Some v) None)) (ap (λ k. eq_by_cmp cmp (seen v).key k) (sym key) ∙ eq_itself seen cmp keys (seen v).key)
        ∙ greater_is (at seen cmp map (seen w).key) b (ap (λ k. is_above seen (at seen cmp map k) v) (sym key) ∙ came)

    pub versions_over : (seen v).key ≡ (seen w).key → replaces seen cmp map v ≡ true → one_if (is_below (seen v) (seen w)) ≡ new_versions seen cmp new w
    versions_over key comes = ap (λ o. one_if (is_above seen o w)) (sym (own_at key true comes))
