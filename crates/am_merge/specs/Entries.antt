-- The entries of the indexes, and their position relative to what is searched for.
use Rattle.std.specs.Prelude.{ℕ, List, Option, Some, None, IsSome, All}
use Rattle.std.specs.Option.{option_map}
use Rattle.std.specs.declared.cmp.Ordering.{Ordering}
use Rattle.std.specs.declared.cmp.Ordering.TheVariants.{Less}
use Rattle.std.specs.Ordering.{nat_cmp, ordering_then}
use Rattle.am_version_order.specs.Versions.{Version}
use Rattle.am_merge.specs.Indexes.{filed}
use Rattle.am_merge.specs.declared.entry.KeyEntry.{KeyEntry}
use Rattle.am_merge.specs.declared.entry.ExpiryEntry.{ExpiryEntry}

-- the slot in the table of the version of an entry by key
abbrev pub key_slot : KeyEntry → ℕ
key_slot e = e.slot

-- the slot in the table of the version of an entry by expiry
abbrev pub expiry_slot : ExpiryEntry → ℕ
expiry_slot e = e.slot

-- the versions of a table in the order of an index
abbrev pub versions_of : {X : Type 0} → (ℕ → Option X) → List KeyEntry → List X
versions_of table keys = filed key_slot table keys

-- the table has a version in the slot of each entry
abbrev pub AreThere : {E X : Type 0} → (E → ℕ) → (ℕ → Option X) → List E → Type 0
AreThere slot_of table entries = All (λ e. IsSome (table (slot_of e))) entries

-- the order of moments, and then of slots
abbrev pub time_cmp : (ℕ × ℕ) → (ℕ × ℕ) → Ordering
time_cmp one other = ordering_then (nat_cmp one.0 other.0) (nat_cmp one.1 other.1)

-- the order of an entry and an expiry with a slot
abbrev pub expiry_order : ℕ → ℕ → ExpiryEntry → Ordering
expiry_order expires slot e = time_cmp (e.expires, e.slot) (expires, slot)

-- the table that gives the content of each slot with the slot
abbrev pub with_slots : {X : Type 0} → (ℕ → Option X) → ℕ → Option (ℕ × X)
with_slots table slot = option_map (λ v. (slot, v)) (table slot)

module _ {K X : Type 0} (seen : X → Version K) where
  -- the entry by expiry of the version in a slot
  abbrev pub expiry_entry : ℕ → (ℕ × X) → ExpiryEntry
  expiry_entry slot there = record { expires = (seen there.1).expires; slot = slot }

  -- the version in a slot as one of its expiry and the slot
  abbrev pub by_time : (ℕ × X) → Version (ℕ × ℕ)
  by_time there =
      record { key = ((seen there.1).expires, there.0); updated = 0; expires = (seen there.1).expires; content = (seen there.1).content }

  -- the entry by key of the version in a slot
  abbrev pub key_entry : (K → ℕ) → ℕ → X → KeyEntry
  key_entry head_of slot v = record { head = head_of (seen v).key; slot = slot }

  module _ (cmp : K → K → Ordering) where
    -- the order of a slot's key and another; an empty slot is before all keys
    abbrev pub tie_of : Option X → K → Ordering
    tie_of None key = Less
    tie_of (Some v) key = cmp (seen v).key key

    -- the order of an entry and a key with its number: by the numbers, and then by the keys
    abbrev pub key_order : (ℕ → Option X) → ℕ → K → KeyEntry → Ordering
    key_order table head key e = ordering_then (nat_cmp e.head head) (tie_of (table e.slot) key)
