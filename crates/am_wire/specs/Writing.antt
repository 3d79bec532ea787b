-- The canonical encoding of a message.
use Rattle.std.specs.Prelude.{ℕ, ◌+◌, ◌*◌, List, [], ◌++◌, length, ◌==◌, if◌then◌else◌}
use Rattle.std.specs.List.{flat_map}
use Rattle.am_wire.specs.Varint.{shortest}

-- the tag of a field
abbrev pub tag : ℕ → ℕ → List ℕ
tag n kind = shortest (n * 8 + kind)

-- a field of a number, which is left out if it is 0
abbrev pub writes_number : ℕ → ℕ → List ℕ
writes_number n v = if v == 0 then [] else tag n 0 ++ shortest v

-- a field of bytes, which is written even if there are none
abbrev pub writes_delimited : ℕ → List ℕ → List ℕ
writes_delimited n bytes = tag n 2 ++ (shortest (length bytes) ++ bytes)

-- a field of a text, which is left out if it is empty
abbrev pub writes_text : ℕ → List ℕ → List ℕ
writes_text n bytes = if length bytes == 0 then [] else writes_delimited n bytes

-- messages, each as a field of its own
abbrev pub writes_messages : {A : Type 0} → (A → List ℕ) → ℕ → List A → List ℕ
writes_messages writes n messages = flat_map (λ m. writes_delimited n (writes m)) messages

-- bytes behind their length
abbrev pub delimited : List ℕ → List ℕ
delimited bytes = shortest (length bytes) ++ bytes

-- messages, each behind its length
abbrev pub writes_rows : List (List ℕ) → List ℕ
writes_rows messages = flat_map delimited messages

-- a field of packed numbers, which is left out if there are none
abbrev pub writes_numbers : ℕ → List ℕ → List ℕ
writes_numbers n numbers = writes_text n (flat_map shortest numbers)
