-- A table of versions in slots, with an index by key, one by expiry and one by bucket.
-- X is the type of the versions, and `seen` gives what the merge sees of one.
use Rattle.std.specs.Prelude.{◌≡◌, ◌≢◌, ℕ, List, ◌∷◌, ◌++◌, length, Option, Some, false}
use Rattle.std.specs.List.{HoldsAt}
use Rattle.std.specs.declared.cmp.Ordering.{Ordering}
use Rattle.slab.specs.Slab.{Slab, get, slab_len, HasRoomFor}
use Rattle.am_merge.specs.declared.blocks.cursor.Cursor.{Cursor}
use Rattle.am_merge.specs.Rows.{Rows, entries, HasRoom}
use Rattle.am_merge.specs.Cursors.{IsItem, IsWithin, place}
use Rattle.am_version_order.specs.Versions.{Version, is_live}
use Rattle.am_merge.specs.Maps.{IsMap}
use Rattle.am_merge.specs.Places.{IsPlaceOf, IsGapFor}
use Rattle.am_merge.specs.Indexes.{IsIndex, filed}
use Rattle.am_merge.specs.Entries.{versions_of, key_slot, expiry_slot, key_entry, expiry_entry, with_slots, by_time, time_cmp}
use Rattle.am_merge.specs.Buckets.{bucket_slot, bucket_entry, by_bucket, bucket_cmp}
use Rattle.am_merge.specs.declared.entry.BucketEntry.{BucketEntry}
use Rattle.am_merge.specs.declared.entry.KeyEntry.{KeyEntry}
use Rattle.am_merge.specs.declared.entry.ExpiryEntry.{ExpiryEntry}
use Rattle.am_merge.specs.declared.store.Store.{Store}

-- the versions of a store in the order of their keys
abbrev pub versions : {X : Type 0} → Store X → List X
versions store = versions_of (get store.table) (entries store.keys)

-- n keys can be added without memory, and m versions, of these keys or in place of others
pub record HasRooms {X : Type 0} (store : Store X) (n m : ℕ) : Type 0 where
  pub table : HasRoomFor store.table n
  pub keys : HasRoom store.keys n
  pub expiries : HasRoom store.expiries m
  pub buckets : HasRoom store.buckets m

-- v can replace the version at the cursor without memory
pub record HasRoomOver {X : Type 0} (bucket_of : X → List ℕ) (store : Store X) (cursor : Cursor) (v : X) : Type 0 where
  pub expiries : HasRoom store.expiries 1
  pub buckets : HoldsAt (λ w. bucket_of w ≢ bucket_of v) (versions store) (place store.keys cursor) → HasRoom store.buckets 1

-- both stores have the same contents, in the same slots and at the same places
pub record IsSame {X : Type 0} (old new : Store X) : Type 0 where
  pub slots : new.table.slots ≡ old.table.slots
  pub vacant : new.table.vacant_key ≡ old.table.vacant_key
  pub keys : new.keys.blocks ≡ old.keys.blocks
  pub expiries : new.expiries.blocks ≡ old.expiries.blocks
  pub buckets : new.buckets.blocks ≡ old.buckets.blocks

-- the new list is the old one without one occurrence of v
pub record IsWithout {X : Type 0} (v : X) (old new : List X) : Type 0 where
  pub front : List X
  pub back : List X
  pub before : old ≡ front ++ v ∷ back
  pub after : new ≡ front ++ back

-- no slot has a version of the key
abbrev pub IsAbsent : {K X : Type 0} → (X → Version K) → (ℕ → Option X) → K → Type 0
IsAbsent {K} {X} seen table key = (slot : ℕ) (v : X) → table slot ≡ Some v → (seen v).key ≢ key

-- the entry at a cursor of the index by key names the slot
abbrev pub IsSlotAt : Rows KeyEntry → Cursor → ℕ → Type 0
IsSlotAt keys cursor slot = HoldsAt (λ e. key_slot e ≡ slot) (entries keys) (place keys cursor)

-- the slot has a content
abbrev pub HasSlot : {X : Type 0} → Slab X → ℕ → Type 0
HasSlot {X} table slot = (v : X) × (get table slot ≡ Some v)

module _ {K X : Type 0} (seen : X → Version K) where
  -- the entries are those of the table's versions, in the order of their expiries
  pub record IsExpiryIndex (table : ℕ → Option X) (es : List ExpiryEntry) : Type 0 where
    pub index : IsIndex expiry_slot (expiry_entry seen) (with_slots table) es
    pub order : IsMap (by_time seen) time_cmp (filed expiry_slot (with_slots table) es)

  -- the version in the slot isn't live
  pub record IsExpiredAt (now : ℕ) (table : Slab X) (slot : ℕ) : Type 0 where
    pub version : X
    pub there : get table slot ≡ Some version
    pub expired : is_live now (seen version) ≡ false

  module _ (head_of : K → ℕ) (cmp : K → K → Ordering) where
    -- the entries are those of the table's versions, in the order of their keys
    pub record IsKeyIndex (table : ℕ → Option X) (es : List KeyEntry) : Type 0 where
      pub index : IsIndex key_slot (key_entry seen head_of) table es
      pub order : IsMap seen cmp (versions_of table es)

    -- the index by key is that of the table
    pub record IsKeyed (store : Store X) : Type 0 where
      pub index : IsKeyIndex (get store.table) (entries store.keys)
      pub count : slab_len store.table ≡ length (entries store.keys)

    module _ (bucket_of : X → List ℕ) where
      -- the entries are those of the table's versions, in the order of their buckets
      pub record IsBucketIndex (table : ℕ → Option X) (es : List BucketEntry) : Type 0 where
        pub index : IsIndex bucket_slot (bucket_entry seen bucket_of head_of) table es
        pub order : IsMap (by_bucket seen bucket_of) (bucket_cmp cmp) (filed bucket_slot table es)

      -- all indexes are those of the table
      pub record IsStore (store : Store X) : Type 0 where
        pub keys : IsKeyIndex (get store.table) (entries store.keys)
        pub expiries : IsExpiryIndex (get store.table) (entries store.expiries)
        pub buckets : IsBucketIndex (get store.table) (entries store.buckets)
        pub count : slab_len store.table ≡ length (entries store.keys)

      -- so the index by key is
      pub keyed : {store : Store X} → IsStore store → IsKeyed store
      keyed is = record { index = is.keys; count = is.count }

  module _ (cmp : K → K → Ordering) where
    -- the entry of the key's version is at the cursor
    pub record IsKeyCursor (store : Store X) (key : K) (cursor : Cursor) : Type 0 where
      pub item : IsItem store.keys cursor
      pub place : IsPlaceOf seen cmp (versions store) key (place store.keys cursor)

    -- no version has the key, and the entry of one that has it would be inserted at the cursor
    pub record IsGapCursor (store : Store X) (key : K) (cursor : Cursor) : Type 0 where
      pub within : IsWithin store.keys cursor
      pub gap : IsGapFor seen cmp (versions store) key (place store.keys cursor)
