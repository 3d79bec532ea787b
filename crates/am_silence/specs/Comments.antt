-- An old comment: author text = 1, comment text = 2, timestamp = 3.
use Rattle.std.specs.Prelude.{ℕ, List, [], ◌∷◌, Option}
use Rattle.am_wire.specs.declared.error.WireError.{WireError}
use Rattle.am_wire.specs.Fields.{FieldAt}
use Rattle.am_wire.specs.Reading.{Table, table_of, text_row, part_row}
use Rattle.am_wire.specs.Timestamps.{timestamp, moment_test}

-- the wire types of an old comment's fields, and the faults inside them
abbrev pub comment : Table
comment = table_of (text_row 1 ∷ text_row 2 ∷ part_row 3 timestamp ∷ [])

-- the fault that an old comment's test finds if its timestamp is not a moment
abbrev pub comment_tests : ℕ → List FieldAt → Option WireError
comment_tests place es = moment_test 3 es
