-- The meaning of a message's bytes: the fields that they spell, and what its table, its tests and its value make of these.
use Rattle.std.specs.Prelude.{◌≡◌, ℕ, List, [], ◌∷◌, ◌++◌, Option, Some, None, All, ◌⊎◌}
use Rattle.std.specs.List.{AllPass}
use Rattle.am_wire.specs.declared.error.WireError.{WireError}
use Rattle.am_wire.specs.Fields.{FieldAt, delimited_at}
use Rattle.am_wire.specs.Grammar.{AreFields, field_fits}
use Rattle.am_wire.specs.Faults.{AreFieldsUntil}
use Rattle.am_wire.specs.Reading.{Table}

-- the fields have no fault inside
abbrev pub AreClean : Table → List FieldAt → Type 0
AreClean table es = All (λ e. table.inside e ≡ None) es

-- the bytes are these fields, which fit the table and have no fault inside
pub record AreSound (table : Table) (es : List FieldAt) (at : ℕ) (bytes : List ℕ) : Type 0 where
  pub fields : AreFields es at bytes
  pub fit : AllPass (field_fits table.fits) es
  pub clean : AreClean table es

-- the bytes are sound fields, the tests pass, and v is the value of the fields
pub record IsMessage {A : Type 0} (table : Table) (tests : ℕ → List FieldAt → Option WireError) (value : List FieldAt → A)
    (place at : ℕ) (bytes : List ℕ) (v : A) : Type 0 where
  pub fields : List FieldAt
  pub sound : AreSound table fields at bytes
  pub passes : tests place fields ≡ None
  pub value_is : value fields ≡ v

-- the bytes are sound fields, then a field that has the fault inside, and then any bytes
pub record HasFaultInside (table : Table) (fault : WireError) (at : ℕ) (bytes : List ℕ) : Type 0 where
  pub before : List FieldAt
  pub field : FieldAt
  pub front : List ℕ
  pub rest : List ℕ
  pub bytes_are : bytes ≡ front ++ rest
  pub fields : AreFields (before ++ field ∷ []) at front
  pub fit : AllPass (field_fits table.fits) (before ++ field ∷ [])
  pub clean : AreClean table before
  pub inside : table.inside field ≡ Some fault

-- the bytes are sound fields, and then bytes with no field at their front, for this fault
pub record HasNoField (table : Table) (fault : WireError) (at : ℕ) (bytes : List ℕ) : Type 0 where
  pub before : List FieldAt
  pub fields : AreFieldsUntil table.fits before fault at bytes
  pub clean : AreClean table before

-- the fault is the first one in the bytes
abbrev pub HasFault : Table → WireError → ℕ → List ℕ → Type 0
HasFault table fault at bytes = HasFaultInside table fault at bytes ⊎ HasNoField table fault at bytes

-- the bytes are sound fields that a test refuses
pub record FailsTests (table : Table) (tests : ℕ → List FieldAt → Option WireError)
    (fault : WireError) (place at : ℕ) (bytes : List ℕ) : Type 0 where
  pub fields : List FieldAt
  pub sound : AreSound table fields at bytes
  pub fails : tests place fields ≡ Some fault

-- a field of these bytes, which begin at the offset `inside`
abbrev pub bytes_field : ℕ → ℕ → ℕ → List ℕ → FieldAt
bytes_field n at inside bytes = record { number = n; payload = delimited_at inside bytes; at = at }
