-- A silence: id text = 1, matchers repeated = 2, starts_at = 3, ends_at = 4, updated_at = 5, old comments repeated = 7,
-- created_by text = 8, comment text = 9. Old comments are read, but never written.
use Rattle.std.specs.Prelude.{ℕ, ◌≤◌, List, [], ◌∷◌, ◌++◌, map, Option, Result, All, slice_get}
use Rattle.std.specs.Option.{option_map_or}
use Rattle.std.specs.Str.{IsUtf8}
use Rattle.am_version_order.specs.Moments.{greatest}
use Rattle.am_wire.specs.declared.error.WireError.{WireError}
use Rattle.am_wire.specs.Fields.{FieldAt}
use Rattle.am_wire.specs.Reading.{Table, table_of, text_row, part_row, item_row, ◌then◌, last_text, messages, read_by}
use Rattle.am_wire.specs.Timestamps.{timestamp, moment_of, moment_test, writes_moment}
use Rattle.am_wire.specs.Writing.{writes_delimited, writes_text, writes_messages}
use Rattle.am_silence.specs.declared.silence.Silence.{Silence}
use Rattle.am_silence.specs.Matchers.{matcher, matcher_value, matcher_tests, writes_matcher, IsMatcher}
use Rattle.am_silence.specs.Comments.{comment, comment_tests}

-- the wire types of a silence's fields, and the faults inside them
abbrev pub silence : Table
silence =
    table_of (
    text_row 1 ∷ item_row 2 matcher matcher_tests ∷ part_row 3 timestamp ∷ part_row 4 timestamp ∷ part_row 5 timestamp
    ∷ item_row 7 comment comment_tests ∷ text_row 8 ∷ text_row 9 ∷ []
    )

-- the first of the old comments, as its fields
abbrev pub first_comment : List FieldAt → Option (List FieldAt)
first_comment es = slice_get (messages comment 7 es) 0

-- the author, which is that of the first old comment if there is one
abbrev pub author_of : List FieldAt → List ℕ
author_of es = option_map_or (last_text 1) (first_comment es) (last_text 8 es)

-- the comment, which is the text of the first old comment if there is one
abbrev pub comment_of : List FieldAt → List ℕ
comment_of es = option_map_or (last_text 2) (first_comment es) (last_text 9 es)

-- the silence that these fields make
abbrev pub silence_value : List FieldAt → Silence
silence_value es = record {
  id = last_text 1 es;
  matchers = map matcher_value (messages matcher 2 es);
  starts_at = moment_of 3 es;
  ends_at = moment_of 4 es;
  updated_at = moment_of 5 es;
  created_by = author_of es;
  comment = comment_of es;
}

-- the fault of the first of its three timestamps that is not a moment
abbrev pub silence_tests : ℕ → List FieldAt → Option WireError
silence_tests place es = moment_test 3 es then moment_test 4 es then moment_test 5 es

-- the silence that bytes spell, or their first fault
unfoldable pub reads_silence : ℕ → List ℕ → Result Silence WireError
reads_silence at bytes = read_by silence silence_tests silence_value at at bytes

-- the canonical encoding of a silence
unfoldable pub writes_silence : Silence → List ℕ
writes_silence s =
    writes_text 1 s.id ++ writes_messages writes_matcher 2 s.matchers ++ writes_delimited 3 (writes_moment s.starts_at)
    ++ writes_delimited 4 (writes_moment s.ends_at) ++ writes_delimited 5 (writes_moment s.updated_at)
    ++ writes_text 8 s.created_by ++ writes_text 9 s.comment

-- the silence is a value of its type
pub record IsSilence (s : Silence) : Type 0 where
  pub id : IsUtf8 s.id
  pub matchers : All IsMatcher s.matchers
  pub starts_at : s.starts_at ≤ greatest
  pub ends_at : s.ends_at ≤ greatest
  pub updated_at : s.updated_at ≤ greatest
  pub created_by : IsUtf8 s.created_by
  pub comment : IsUtf8 s.comment
