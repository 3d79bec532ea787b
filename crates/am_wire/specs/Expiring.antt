-- A message, and the moment from which it may be forgotten: message = 1, expires_at = 2.
use Rattle.std.specs.Prelude.{ℕ, Bool, List, [], ◌∷◌, ◌++◌, Option, Some, if◌then◌else◌}
use Rattle.am_wire.specs.declared.error.WireError.{WireError}
use Rattle.am_wire.specs.declared.error.WireError.TheVariants as errors
use Rattle.am_wire.specs.declared.value.WireType.{WireType}
use Rattle.am_wire.specs.declared.expiring.Expiring.{Expiring}
use Rattle.am_wire.specs.declared.expiring.ExpiringDraft.{ExpiringDraft}
use Rattle.am_wire.specs.Fields.{FieldAt}
use Rattle.am_wire.specs.Parts.{IsPart}
use Rattle.am_wire.specs.Reading.{Table, table_of, part_row, ◌then◌, last_place, merged, is_given}
use Rattle.am_wire.specs.Timestamps.{timestamp, moment_of, moment_test, writes_moment}
use Rattle.am_wire.specs.TimestampDrafts.{IsTimestampDraft}
use Rattle.am_wire.specs.Writing.{writes_delimited}

-- the wire types of the two fields and the faults inside them, for a message with this table
abbrev pub expiring : Table → Table
expiring table = table_of (part_row 1 table ∷ part_row 2 timestamp ∷ [])

-- the wire types of the two fields, which hold messages whatever the message's table is
abbrev pub expiring_fits : ℕ → WireType → Bool
expiring_fits number kind = (expiring timestamp).fits number kind

-- the message and the moment that these fields make, for a message whose own fields make `value`
abbrev pub expiring_value : {A : Type 0} → Table → (List FieldAt → A) → List FieldAt → Expiring A
expiring_value table value es = record { message = value (merged table 1 es); expires_at = moment_of 2 es }

-- the first fault that tests find: a missing message comes before anything found in the message or its moment
abbrev pub expiring_tests : Table → (ℕ → List FieldAt → Option WireError) → ℕ → List FieldAt → Option WireError
expiring_tests table tests place es =
    if is_given 1 es then (tests (last_place 1 es) (merged table 1 es) then moment_test 2 es) else Some (errors.MissingMessage 1)

-- the draft holds what these fields leave, if the message's draft does so by `holds`
pub record IsExpiringDraft {D : Type 0} (holds : List FieldAt → D → Type 0) (table : Table) (es : List FieldAt) (d : ExpiringDraft D) : Type 0 where
  pub message : IsPart holds table 1 es d.message
  pub expires_at : IsPart IsTimestampDraft timestamp 2 es d.expires_at

-- the text of a message and its moment, for a message with this text; both fields are written even if they are empty
abbrev pub writes_expiring : List ℕ → ℕ → List ℕ
writes_expiring text expires_at = writes_delimited 1 text ++ writes_delimited 2 (writes_moment expires_at)
