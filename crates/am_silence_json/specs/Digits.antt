-- Decimal digits at a place of a text (RFC 3339, section 5.6). A text is the list of its bytes, with zeros past its end.
use Rattle.std.specs.Prelude.{◌≡◌, ℕ, ◌+◌, ◌/◌, ◌%◌, ◌<◌, List, slice_index}

-- the digit of a number below 10 stands at a place
pub record HasDigit (text : List ℕ) (place n : ℕ) : Type 0 where
  pub below : n < 10
  pub here : slice_index text place ≡ 48 + n

-- the two digits of a number below 100 stand at a place
pub record HasTwo (text : List ℕ) (place n : ℕ) : Type 0 where
  pub tens : HasDigit text place (n / 10)
  pub ones : HasDigit text (place + 1) (n % 10)
