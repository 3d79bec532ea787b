-- Numbers, as words of the command line.
use Rattle.std.specs.Prelude.{◌≡◌, ℕ, ◌+◌, ◌-◌, ◌*◌, ◌<◌, ◌≤◌, true, List, [], ◌∷◌, length}
use Rattle.std.specs.List.{list_all}
use Rattle.std.specs.Char.{is_ascii_digit}

-- the number that these decimal digits are, the highest first, behind a number
abbrev pub decimal_behind : ℕ → List ℕ → ℕ
decimal_behind n [] = n
decimal_behind n (digit ∷ digits) = decimal_behind (10 * n + (digit - 48)) digits

unfoldable pub decimal_of : List ℕ → ℕ
decimal_of digits = decimal_behind 0 digits

-- the word consists of one ASCII digit or more, and nothing else
pub record IsNumber (word : List ℕ) : Type 0 where
  pub some : 0 < length word
  pub digits : list_all is_ascii_digit word ≡ true

-- the word is a number that lies between the least and the most
pub record IsNumberWithin (least most : ℕ) (word : List ℕ) : Type 0 where
  pub number : IsNumber word
  pub not_below : least ≤ decimal_of word
  pub not_above : decimal_of word ≤ most
