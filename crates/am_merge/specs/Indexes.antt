-- Indexes over a table: small entries in some order, each of which names the content of a slot.
-- E is the type of the entries, and Y the type of the table's contents.
use Rattle.std.specs.Prelude.{◌≡◌, ◌≢◌, ℕ, List, Option, Some, Contains, filter_map}
use Rattle.std.specs.List.{AllByRecursion}

-- the new table has this content in the slot, and every other slot is unchanged
pub record Changes {Y : Type 0} (old new : ℕ → Option Y) (slot : ℕ) (there : Option Y) : Type 0 where
  pub changed : new slot ≡ there
  pub others : (other : ℕ) → other ≢ slot → new other ≡ old other

-- the contents that the entries name, in their order
abbrev pub filed : {E Y : Type 0} → (E → ℕ) → (ℕ → Option Y) → List E → List Y
filed slot_of table entries = filter_map (λ e. table (slot_of e)) entries

module _ {E Y : Type 0} (slot_of : E → ℕ) (entry : ℕ → Y → E) (table : ℕ → Option Y) where
  -- the entry is the one made from the content of its slot
  pub record Names (e : E) : Type 0 where
    pub value : Y
    pub there : table (slot_of e) ≡ Some value
    pub is : e ≡ entry (slot_of e) value

  -- each entry names a content, and each content of the table has its entry
  pub record IsIndex (entries : List E) : Type 0 where
    pub sound : AllByRecursion Names entries
    pub complete : (slot : ℕ) (y : Y) → table slot ≡ Some y → Contains entries (entry slot y)
