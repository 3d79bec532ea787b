-- Matchers as one text, from which they are read back: that of a silence's fields, in which each matcher is a field 2.
use Rattle.std.specs.Prelude.{◌≡◌, ◌≢◌, ℕ, ◌<◌, ◌^◌, List, [], ◌∷◌, ◌++◌, length, map, All, Some, slice_get, ◌==◌, if◌then◌else◌}
use Rattle.std.specs.Str.{IsUtf8}
use Rattle.am_wire.specs.Reading.{Table, table_of, item_row, fields_in, messages}
use Rattle.am_wire.specs.Writing.{delimited, writes_messages}
use Rattle.am_silence.specs.declared.matcher.Matcher.{Matcher}
use Rattle.am_silence.specs.Matchers.{matcher, matcher_value, matcher_tests, writes_matcher, IsMatcher}

-- the canonical encoding of matchers
abbrev pub writes_matchers : List Matcher → List ℕ
writes_matchers matchers = writes_messages writes_matcher 2 matchers

-- the table by which the text is read
abbrev pub matchers_table : Table
matchers_table = table_of (item_row 2 matcher matcher_tests ∷ [])

-- the matchers that a text spells, up to its first fault
unfoldable pub matchers_in : List ℕ → List Matcher
matchers_in text = map matcher_value (messages matcher 2 (fields_in matchers_table 0 text))

-- the text is the canonical one of the matchers that it spells
pub record IsMatchersText (text : List ℕ) : Type 0 where
  pub is : text ≡ writes_matchers (matchers_in text)
  pub values : All IsMatcher (matchers_in text)
  pub short : length text < 2 ^ 64

-- the text is the canonical one of this matcher
pub record IsMatcherText (text : List ℕ) (m : Matcher) : Type 0 where
  pub is : text ≡ writes_matcher m
  pub value : IsMatcher m
  pub short : length text < 2 ^ 64

-- the bytes begin with a tag of one byte, a length and the text, or leave them out if the text is empty; the rest has
-- another tag
pub record Leads (tag : ℕ) (text rest bytes : List ℕ) : Type 0 where
  pub is : bytes ≡ (if length text == 0 then [] else tag ∷ delimited text) ++ rest
  pub value : IsUtf8 text
  pub short : length text < 2 ^ 64
  pub apart : slice_get rest 0 ≢ Some tag
