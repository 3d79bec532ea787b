-- The words of a line.
use Rattle.std.specs.Prelude.{ℕ, Bool, List, [], length, Option, Result, Ok, Err, nat_le, ◌==◌, if◌then◌else◌, get_or}
use Rattle.std.specs.List.{slice_split}
use Rattle.std.specs.Str.{bytes_eq}
use Rattle.am_schedule.specs.declared.error.FaultKind.{FaultKind}
use Rattle.am_schedule.specs.declared.error.FaultKind.TheVariants.{Number, Name}
use Rattle.am_schedule.specs.Readings.{◌>>=◌, or_fault}

-- words are separated by one space: two spaces in a row, or one at either end, make an empty word
unfoldable pub words_of : List ℕ → List (List ℕ)
words_of line = slice_split (λ b. b == 32) line

-- the word at a place, counted from 0, or the empty text after the last word
unfoldable pub word_at : ℕ → List (List ℕ) → List ℕ
word_at place words = get_or words place []

-- true if a word stands in a place
abbrev pub has_word : ℕ → List ℕ → List (List ℕ) → Bool
has_word place word words = bytes_eq (word_at place words) word

-- a word has at most 1,024 bytes
abbrev pub is_short : List ℕ → Bool
is_short word = nat_le (length word) 1024

-- a word that may be any text
unfoldable pub text_in : List ℕ → Result (List ℕ) FaultKind
text_in word = if is_short word then Ok word else Err Name

-- a word in the place of a number: even if it is one, it may be too long
unfoldable pub in_place : {A : Type 0} → Option A → List ℕ → Result A FaultKind
in_place value word = or_fault Number value >>= λ v. if is_short word then Ok v else Err Name
