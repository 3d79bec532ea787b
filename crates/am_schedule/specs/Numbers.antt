-- Numbers as a schedule writes them.
use Rattle.std.specs.Prelude.{ℕ, ◌==◌, option_and_then, option_map, ◌+◌, ◌-◌, ◌*◌, ◌^◌, Bool, List, [], ◌∷◌, length}
use Rattle.std.specs.Prelude.{Option, Some, None, nat_lt, nat_le, ◌&&◌, if◌then◌else◌}
use Rattle.std.specs.List.{list_all}
use Rattle.std.specs.Char.{is_ascii_digit}

-- the number spelled by decimal digits, the highest first, after the digits of another number
abbrev pub decimal_behind : ℕ → List ℕ → ℕ
decimal_behind n [] = n
decimal_behind n (digit ∷ digits) = decimal_behind (10 * n + (digit - 48)) digits

-- the number spelled by decimal digits
unfoldable pub decimal_of : List ℕ → ℕ
decimal_of digits = decimal_behind 0 digits

-- a number is one or more ASCII digits, and nothing else
abbrev pub is_number : List ℕ → Bool
is_number word = nat_lt 0 (length word) && list_all is_ascii_digit word

-- a number below 2 ^ 64
unfoldable pub count_in : List ℕ → Option ℕ
count_in word = if is_number word && nat_lt (decimal_of word) (2 ^ 64) then Some (decimal_of word) else None

-- the number, if it lies between the least and the most allowed
abbrev pub wanted : ℕ → ℕ → Option ℕ → Option ℕ
wanted least most None = None
wanted least most (Some n) = if nat_le least n && nat_le n most then Some n else None

-- the number that a word spells, if it lies between the least and the most allowed
unfoldable pub number_within : ℕ → ℕ → List ℕ → Option ℕ
number_within least most word = wanted least most (count_in word)

-- a number of seconds, as an interval in nanoseconds
abbrev pub seconds_in : List ℕ → Option ℕ
seconds_in word = option_map (λ seconds. seconds * 1_000_000_000) (number_within 1 999_999_999 word)

-- the value of a lower-case hexadecimal digit
abbrev pub hex_digit_in : ℕ → Option ℕ
hex_digit_in byte =
    if nat_le 48 byte && nat_le byte 57 then Some (byte - 48) else
    if nat_le 97 byte && nat_le byte 102 then Some (byte - 87) else None

-- the number spelled by hexadecimal digits, the highest first, after the digits of another number
abbrev pub hex_behind : ℕ → List ℕ → Option ℕ
hex_behind n [] = Some n
hex_behind n (byte ∷ bytes) = option_and_then (λ digit. hex_behind (16 * n + digit) bytes) (hex_digit_in byte)

-- 128 bits, as 32 hexadecimal digits
unfoldable pub bits_in : List ℕ → Option ℕ
bits_in word = if length word == 32 then hex_behind 0 word else None
