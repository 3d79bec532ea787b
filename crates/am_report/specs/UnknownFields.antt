-- The fields that readers kept without knowing them, by their numbers; and those by which two versions differ.
use Rattle.std.specs.Prelude.{ℕ, List, [], ◌∷◌, ◌++◌, length, take, drop, map, filter, fold, Bool, true, false, not}
use Rattle.std.specs.Prelude.{◌==◌, ◌&&◌, ◌||◌, nat_lt, codes, if◌then◌else◌}
use Rattle.std.specs.Ordering.{nat_cmp}
use Rattle.std.specs.Str.{bytes_eq}
use Rattle.std.specs.BTreeSet.{insert_key}
use Rattle.am_wire.specs.declared.unknown.UnknownFields.{UnknownFields}
use Rattle.am_wire.specs.Fields.{FieldAt, fields_of, any}
use Rattle.am_wire.specs.Reading.{sound_fields}
use Rattle.am_report.specs.Lists.{numbers_word}

-- the fields that bytes spell, in their order
abbrev pub fields_in : List ℕ → List FieldAt
fields_in bytes = sound_fields (fields_of any 0 bytes)

-- ---- numbers

-- the numbers of these fields
abbrev pub numbers_in : List ℕ → List ℕ
numbers_in bytes = map (λ e. e.number) (fields_in bytes)

-- the numbers of a version's unknown fields, inside its message and beside it
abbrev pub unknown_numbers : UnknownFields → List ℕ
unknown_numbers fields = numbers_in fields.inner ++ numbers_in fields.outer

-- numbers added to those that are in increasing order already, each once
abbrev pub with_numbers : List ℕ → List ℕ → List ℕ
with_numbers before numbers = fold (insert_key nat_cmp) before numbers

-- the numbers of the unknown fields of two versions in increasing order, each once
abbrev pub numbers_of_both : UnknownFields → UnknownFields → List ℕ
numbers_of_both one other = with_numbers (with_numbers [] (unknown_numbers one)) (unknown_numbers other)

-- ---- bytes

-- the bytes from one offset up to another
abbrev pub between : ℕ → ℕ → List ℕ → List ℕ
between start end bytes = drop start (take end bytes)

-- the offset at which the first of these fields begins, or the end if there is none
abbrev pub start_of : ℕ → List FieldAt → ℕ
start_of end [] = end
start_of end (e ∷ es) = e.at

-- the bytes of the fields that have the number, one after the other: each up to where the next field begins
abbrev pub bytes_of : ℕ → List ℕ → List FieldAt → List ℕ
bytes_of number bytes [] = []
bytes_of number bytes (e ∷ es) =
    (if e.number == number then between e.at (start_of (length bytes) es) bytes else []) ++ bytes_of number bytes es

-- the bytes of the fields with this number that bytes spell
unfoldable pub bytes_at : ℕ → List ℕ → List ℕ
bytes_at number bytes = bytes_of number bytes (fields_in bytes)

-- ---- differences

-- true if the fields of two versions that have the number are not the same bytes, inside or beside
abbrev pub differs_at : UnknownFields → UnknownFields → ℕ → Bool
differs_at one other number =
    not (bytes_eq (bytes_at number one.inner) (bytes_at number other.inner) && bytes_eq (bytes_at number one.outer) (bytes_at number other.outer))

-- numbers with commas between them, and `..` after them if there are more
abbrev pub named : List ℕ → Bool → List ℕ
named [] false = []
named [] true = codes ".."
named numbers false = numbers_word numbers
named numbers true = numbers_word numbers ++ codes ",.."

-- the first 16 of the numbers that differ; there are more if more of them differ, or if not all numbers were looked at
abbrev pub named_of : List ℕ → Bool → List ℕ
named_of numbers are_left = named (take 16 numbers) (nat_lt 16 (length numbers) || are_left)

-- true if both have the same unknown fields
abbrev pub is_same_unknown : UnknownFields → UnknownFields → Bool
is_same_unknown one other = bytes_eq one.inner other.inner && bytes_eq one.outer other.outer

-- the numbers by which the unknown fields of two versions differ, of which the least 256 are looked at
unfoldable pub differing : UnknownFields → UnknownFields → List ℕ
differing one other =
    if is_same_unknown one other then []
    else named_of (filter (differs_at one other) (take 256 (numbers_of_both one other))) (nat_lt 256 (length (numbers_of_both one other)))
