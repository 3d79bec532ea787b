-- The hash of an alert, a number of 64 bits, as a text: 16 lowercase hexadecimal digits (RFC 4648, base 16), the most significant
-- first.
use Rattle.std.specs.Prelude.{ℕ, ◌+◌, ◌-◌, ◌*◌, ◌==◌, ◌&&◌, nat_le, if◌then◌else◌, List, [], ◌∷◌, length, map, Option, Some, None}
use Rattle.std.specs.Prelude.{option_map, option_and_then}
use Rattle.std.specs.Int.{w64, to_be_bytes}
use Rattle.hex.specs.Hex.{encode_lower}
use Rattle.serde_json.specs.Data.{Data, string, array, Items, no_items, item}
use Rattle.serde_json.specs.Find.{get, as_str, as_array}
use Rattle.serde_json.specs.View.{items_of}

-- the text of a hash: its eight bytes in hexadecimal digits, the most significant first
unfoldable pub hash_text : ℕ → List ℕ
hash_text hash = encode_lower (to_be_bytes w64 hash)

-- ---- read

-- the value of a digit: `0` to `9`, or `a` to `f`
abbrev pub digit_value : ℕ → Option ℕ
digit_value c = if nat_le 48 c && nat_le c 57 then Some (c - 48) else if nat_le 97 c && nat_le c 102 then Some (c - 87) else None

-- the number that digits spell after those that spell `number`
abbrev pub value_after : ℕ → List ℕ → Option ℕ
value_after number [] = Some number
value_after number (digit ∷ digits) = option_and_then (λ value. value_after (number * 16 + value) digits) (digit_value digit)

-- the hash whose text this is: exactly 16 digits
abbrev pub hash_of : List ℕ → Option ℕ
hash_of text = if length text == 16 then value_after 0 text else None

-- the hash that a value is
abbrev pub hash_in : Data → Option ℕ
hash_in d = option_and_then hash_of (as_str d)

-- the hashes that all the values are
abbrev pub hashes_of : Items → Option (List ℕ)
hashes_of no_items = Some []
hashes_of (item d ds) = option_and_then (λ hash. option_map (λ hashes. hash ∷ hashes) (hashes_of ds)) (hash_in d)

-- the list of hashes at a key
abbrev pub hashes_in : List ℕ → Data → Option (List ℕ)
hashes_in key d = option_and_then hashes_of (option_and_then as_array (get key d))

-- ---- written

abbrev pub hash_data : ℕ → Data
hash_data hash = string (hash_text hash)

abbrev pub hashes_data : List ℕ → Data
hashes_data hashes = array (items_of (map hash_data hashes))
