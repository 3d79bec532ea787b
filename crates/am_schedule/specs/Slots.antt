-- The kinds of words in the places of a line, and how each is read.
use Rattle.std.specs.Prelude.{ℕ, Bool, List, Option, Some, None, Result, Ok, codes, if◌then◌else◌}
use Rattle.std.specs.Str.{bytes_eq}
use Rattle.am_schedule.specs.declared.error.FaultKind.{FaultKind}
use Rattle.am_schedule.specs.Readings.{◌>>=◌}
use Rattle.am_schedule.specs.Words.{text_in, in_place}
use Rattle.am_schedule.specs.Numbers.{count_in, seconds_in, bits_in}
use Rattle.am_schedule.specs.Times.{moment_in, whole_moment_in}
use Rattle.am_schedule.specs.Lists.{hashes_in, yes_or_no_in, member_in}

-- the kind of word in a place
pub data Slot : Type 0 where
  -- seconds since 1970, with a fraction if there is a point
  moment : Slot
  -- whole seconds since 1970
  whole_moment : Slot
  -- an interval of whole seconds
  interval : Slot
  -- a number below 2 ^ 64
  number : Slot
  -- 128 bits as hexadecimal digits
  bits : Slot
  -- a list of numbers
  hashes : Slot
  yes_or_no : Slot
  -- the name of a member
  member : Slot
  -- any text
  text : Slot
  -- any text, or `-` for none
  identifier : Slot

-- the values of a kind of place
abbrev pub ValueOf : Slot → Type 0
ValueOf moment = ℕ
ValueOf whole_moment = ℕ
ValueOf interval = ℕ
ValueOf number = ℕ
ValueOf bits = ℕ
ValueOf hashes = List ℕ
ValueOf yes_or_no = Bool
ValueOf member = List ℕ
ValueOf text = List ℕ
ValueOf identifier = Option (List ℕ)

-- an identifier, or `-` for none
abbrev pub id_in : List ℕ → Result (Option (List ℕ)) FaultKind
id_in word = if bytes_eq word (codes "-") then Ok None else (text_in word >>= λ id. Ok (Some id))

-- The value of a word in its place: `Number` if it isn't the number, list, or yes or no that the place needs; then `Name` if
-- it is too long or no member.
abbrev pub value_at : List (List ℕ) → (slot : Slot) → List ℕ → Result (ValueOf slot) FaultKind
value_at names moment word = in_place (moment_in word) word
value_at names whole_moment word = in_place (whole_moment_in word) word
value_at names interval word = in_place (seconds_in word) word
value_at names number word = in_place (count_in word) word
value_at names bits word = in_place (bits_in word) word
value_at names hashes word = in_place (hashes_in word) word
value_at names yes_or_no word = in_place (yes_or_no_in word) word
value_at names member word = member_in names word
value_at names text word = text_in word
value_at names identifier word = id_in word
