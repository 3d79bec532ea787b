-- The words of a query: pairs of names and values (a form, percent-encoded: the URL Standard, section 5). If a word comes twice,
-- the first one counts.
use Rattle.std.specs.Prelude.{ℕ, ◌+◌, ◌-◌, ◌*◌, ◌^◌, ◌&&◌, Bool, true, false, List, [], ◌∷◌, length, codes, nat_eq, nat_lt, nat_le, Option, Some, None, if◌then◌else◌}
use Rattle.std.specs.List.{list_all}
use Rattle.std.specs.Char.{is_ascii_digit}
use Rattle.std.specs.Cmp.Lexicographic.{pointwise}
use Rattle.form_urlencoded.specs.Form as form
use Rattle.am_http.specs.Queries.{decoded}

-- the value of the first of the pairs that has the name
abbrev pub first_among : List ℕ → List (List ℕ × List ℕ) → Option (List ℕ)
first_among name [] = None
first_among name (pair ∷ pairs) = if pointwise nat_eq (decoded pair.0) name then Some (decoded pair.1) else first_among name pairs

-- the value of a word, if the query has it
abbrev pub word_in : List ℕ → List ℕ → Option (List ℕ)
word_in name query = first_among name (form.raw_pairs query)

-- ---- numbers

-- the number that decimal digits spell, the highest first, after a number
abbrev pub decimal_behind : ℕ → List ℕ → ℕ
decimal_behind n [] = n
decimal_behind n (digit ∷ digits) = decimal_behind (10 * n + (digit - 48)) digits

-- the number that decimal digits spell
unfoldable pub decimal_of : List ℕ → ℕ
decimal_of digits = decimal_behind 0 digits

-- The text is one or more ASCII digits, and nothing else.
abbrev pub is_number : List ℕ → Bool
is_number text = nat_lt 0 (length text) && list_all is_ascii_digit text

-- a number below 2 ^ 64, in ASCII digits alone
unfoldable pub number_in : List ℕ → Option ℕ
number_in text = if is_number text && nat_lt (decimal_of text) (2 ^ 64) then Some (decimal_of text) else None

-- the number, if it lies between the least and the most
abbrev pub within : ℕ → ℕ → Option ℕ → Option ℕ
within least most None = None
within least most (Some n) = if nat_le least n && nat_le n most then Some n else None

-- the number in the word, or the default if the word is left out
abbrev pub number_or : ℕ → ℕ → ℕ → Option (List ℕ) → Option ℕ
number_or default least most None = Some default
number_or default least most (Some text) = within least most (number_in text)

-- ---- truth values

-- true or false
abbrev pub truth_of : List ℕ → Option Bool
truth_of text =
    if pointwise nat_eq text (codes "true") then Some true else
    if pointwise nat_eq text (codes "false") then Some false else None

-- the truth value in the word, or true if it is left out
abbrev pub truth_or : Option (List ℕ) → Option Bool
truth_or None = Some true
truth_or (Some text) = truth_of text

-- ---- texts

-- the word, or the default if it is left out
abbrev pub text_or : List ℕ → Option (List ℕ) → List ℕ
text_or default None = default
text_or default (Some text) = text
