-- A matcher: type enum = 1, name text = 2, pattern text = 3.
use Rattle.std.specs.Prelude.{ℕ, Bool, false, List, [], ◌∷◌, ◌++◌, length, Option, Some, None, Result, nat_lt, ◌==◌, not, if◌then◌else◌}
use Rattle.std.specs.Str.{IsUtf8}
use Rattle.am_wire.specs.declared.error.WireError.{WireError}
use Rattle.am_wire.specs.declared.error.WireError.TheVariants as errors
use Rattle.am_wire.specs.Fields.{FieldAt}
use Rattle.am_wire.specs.Reading.{Table, table_of, varint_row, text_row, last_number, last_number_place, last_text, read_by}
use Rattle.am_wire.specs.Timestamps.{low_half}
use Rattle.am_wire.specs.Writing.{writes_number, writes_text}
use Rattle.am_silence.specs.declared.matcher.Matcher.{Matcher}
use Rattle.am_silence.specs.declared.matcher.MatcherKind.TheVariants as kinds
use Rattle.am_silence.specs.Kinds.{kind_code, kind_of}

-- the wire types of a matcher's fields, and the faults inside them
abbrev pub matcher : Table
matcher = table_of (varint_row 1 ∷ text_row 2 ∷ text_row 3 ∷ [])

-- the matcher that these fields make
abbrev pub matcher_value : List FieldAt → Matcher
matcher_value es = record { kind = kind_of (low_half (last_number 1 es)); name = last_text 2 es; pattern = last_text 3 es }

-- the fault that a matcher's test finds if its last type is none of the four, reported at that field
abbrev pub matcher_tests : ℕ → List FieldAt → Option WireError
matcher_tests place es = if nat_lt (low_half (last_number 1 es)) 4 then None else Some (errors.MatcherType (last_number_place 1 es))

-- the matcher that bytes spell, or their first fault
unfoldable pub reads_matcher : ℕ → List ℕ → Result Matcher WireError
reads_matcher at bytes = read_by matcher matcher_tests matcher_value at at bytes

-- the canonical encoding of a matcher
unfoldable pub writes_matcher : Matcher → List ℕ
writes_matcher m = writes_number 1 (kind_code m.kind) ++ writes_text 2 m.name ++ writes_text 3 m.pattern

-- the matcher is a value of its type
pub record IsMatcher (m : Matcher) : Type 0 where
  pub name : IsUtf8 m.name
  pub pattern : IsUtf8 m.pattern

-- the label has to be present, and equal to the pattern
abbrev pub wants_label : Matcher → Bool
wants_label m = elim m.kind [ kinds.Equal ↦ not (length m.pattern == 0) | _ ↦ false ]
