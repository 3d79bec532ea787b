-- The pieces of a pattern of RE2, which is read from the left, one piece at a time: pieces that RE2 and `regex` have in
-- common, or that `regex` has in other words. `None` means that no such piece is at the front.
use Rattle.std.specs.Prelude.{ℕ, ◌+◌, ◌*◌, max, ◌==◌, Bool, true, false, not, ◌&&◌, ◌||◌, nat_eq, nat_le, nat_lt, List, [], ◌∷◌, ◌++◌, length, drop, reverse, fold, Option, Some, None, codes, if◌then◌else◌}
use lib.Pointwise.{pointwise}
use Rattle.std.specs.List.{list_any, take_while}
use Rattle.std.specs.Char.{is_ascii_alphanumeric, is_ascii_digit, is_ascii_hexdigit, is_ascii_punctuation, digit_value}
use Rattle.regex_hir.specs.Text.{is_scalar}
use Rattle.regex_syntax.specs.Reading.{◌>>=◌, ◌>>◌, ◌∈◌, begins}
use Rattle.am_matcher.specs.declared.re2.pieces.PatternPart.{PatternPart}
use Rattle.am_matcher.specs.declared.re2.pieces.PatternPart.TheVariants.{Atom, Fixed, Repeat, Open, Close, Bar}
use Rattle.am_matcher.specs.declared.re2.pieces.PatternPlace.{PatternPlace}
use Rattle.am_matcher.specs.declared.re2.pieces.PatternPlace.TheVariants.{Outside, ClassStart, Class, Quotation}
use Rattle.am_matcher.specs.Re2Spelling.{Read, before, literal, perl, property}

-- a piece outside of classes
abbrev pub outside : PatternPart → List ℕ → List ℕ → Read
outside part written rest = record { part = Some part; written = written; name = None; place = Outside; rest = rest }

-- a piece of a class
abbrev pub of_class : List ℕ → List ℕ → Read
of_class written rest = record { part = None; written = written; name = None; place = Class; rest = rest }

-- the characters at the front that pass the test, as many as possible
abbrev pub run : (ℕ → Bool) → List ℕ → List ℕ
run = take_while

-- the text behind these characters
abbrev pub behind : (ℕ → Bool) → List ℕ → List ℕ
behind test text = drop (length (run test text)) text

-- a letter, a digit or `_`
abbrev pub is_word : ℕ → Bool
is_word c = is_ascii_alphanumeric c || (c == 0x5F)

-- a letter of a flag, or a hyphen
abbrev pub is_flag : ℕ → Bool
is_flag c = c ∈ "imsU-"

-- The code that the hexadecimal digits write, or a code above those of all characters if it is too great.
unfoldable pub code : List ℕ → ℕ
code digits = fold (λ n d. if nat_lt 0x10FFFF n then n else n * 16 + digit_value d) 0 digits

-- the character whose code the digits write
unfoldable pub coded : List ℕ → Option ℕ
coded digits = is_scalar (code digits) >> Some (code digits)

-- behind `\x{`: hexadecimal digits, and a brace
unfoldable pub braced_code : List ℕ → Option (ℕ × List ℕ)
braced_code text = do
  begins "}" (behind is_ascii_hexdigit text) && not (length (run is_ascii_hexdigit text) == 0)
  c ← coded (run is_ascii_hexdigit text)
  Some (c, drop 1 (behind is_ascii_hexdigit text))

-- behind `\x`: two hexadecimal digits
unfoldable pub short_code : List ℕ → Option (ℕ × List ℕ)
short_code (a ∷ b ∷ rest) =
    if is_ascii_hexdigit a && is_ascii_hexdigit b then (coded (a ∷ b ∷ []) >>= λ c. Some (c, rest)) else None
short_code _ = None

-- behind `\x`: two hexadecimal digits, or any number of them in braces
unfoldable pub coded_character : List ℕ → Option (ℕ × List ℕ)
coded_character text = if begins "{" text then braced_code (drop 1 text) else short_code text

-- the character that a letter or a sign behind a backslash stands for
unfoldable pub escaped_letter : ℕ → Option ℕ
escaped_letter c =
    if c ∈ "a" then Some 0x07
    else if c ∈ "f" then Some 0x0C
    else if c ∈ "n" then Some 0x0A
    else if c ∈ "r" then Some 0x0D
    else if c ∈ "t" then Some 0x09
    else if c ∈ "v" then Some 0x0B
    else is_ascii_punctuation c >> Some c

-- behind a backslash: the spelling of one character
unfoldable pub escaped_character : List ℕ → Option (ℕ × List ℕ)
escaped_character [] = None
escaped_character (c ∷ rest) =
    if c ∈ "x" then coded_character rest else (escaped_letter c >>= λ one. Some (one, rest))

-- the letter of a Perl class
abbrev pub is_perl : ℕ → Bool
is_perl c = c ∈ "dDsSwW"

-- the names of the POSIX classes
abbrev pub class_names : List (List ℕ)
class_names =
    codes "alnum" ∷ codes "alpha" ∷ codes "ascii" ∷ codes "blank" ∷ codes "cntrl" ∷ codes "digit" ∷ codes "graph" ∷ codes "lower"
    ∷ codes "print" ∷ codes "punct" ∷ codes "space" ∷ codes "upper" ∷ codes "word" ∷ codes "xdigit" ∷ []

-- the known scripts
abbrev pub script_names : List (List ℕ)
script_names =
    codes "Arabic" ∷ codes "Armenian" ∷ codes "Bengali" ∷ codes "Cyrillic" ∷ codes "Devanagari" ∷ codes "Georgian" ∷ codes "Greek"
    ∷ codes "Han" ∷ codes "Hangul" ∷ codes "Hebrew" ∷ codes "Hiragana" ∷ codes "Katakana" ∷ codes "Latin" ∷ codes "Thai" ∷ []

-- the text is one of the words
abbrev pub is_one_of : List (List ℕ) → List ℕ → Bool
is_one_of words text = list_any (λ word. pointwise nat_eq text word) words

-- two letters name a general category: that of a group, and one behind it
unfoldable pub is_subcategory : ℕ → ℕ → Bool
is_subcategory category letter =
    if category ∈ "L" then letter ∈ "ultmo"
    else if category ∈ "M" then letter ∈ "nce"
    else if category ∈ "N" then letter ∈ "dlo"
    else if category ∈ "P" then letter ∈ "cdseifo"
    else if category ∈ "S" then letter ∈ "mcko"
    else if category ∈ "Z" then letter ∈ "slp"
    else category ∈ "C" && letter ∈ "cfo"

-- the name of a general category of Unicode
unfoldable pub is_category : List ℕ → Bool
is_category (category ∷ []) = category ∈ "LMNPSZ"
is_category (category ∷ letter ∷ []) = is_subcategory category letter
is_category _ = false

-- the name of a general category or of a script
unfoldable pub is_property : List ℕ → Bool
is_property name = is_category name || is_one_of script_names name

-- The property with this name: the text that is written for it, and the text behind it.
unfoldable pub named_property : Bool → List ℕ → List ℕ → Option (List ℕ × List ℕ)
named_property negated name rest = is_property name >> Some (property negated name, rest)

-- behind `\p{`: a name and a brace
unfoldable pub braced_property : Bool → List ℕ → Option (List ℕ × List ℕ)
braced_property negated text =
    begins "}" (behind is_word text) >> named_property negated (run is_word text) (drop 1 (behind is_word text))

-- behind `\p`, or `\P`, which negates it: a letter, or a name in braces, perhaps behind `^`, which negates it
unfoldable pub property_at : Bool → List ℕ → Option (List ℕ × List ℕ)
property_at negated [] = None
property_at negated (c ∷ rest) =
    if begins "{^" (c ∷ rest) then braced_property (not negated) (drop 1 rest)
    else if begins "{" (c ∷ rest) then braced_property negated rest
    else named_property negated (before (c ∷ rest) rest) rest

-- the number that the digits write, or a number above 1,000 if it is too great
unfoldable pub number : List ℕ → ℕ
number digits = fold (λ n d. if nat_lt 1000 n then n else n * 10 + digit_value d) 0 digits

-- at least one digit, and no zero before others
unfoldable pub is_number : List ℕ → Bool
is_number [] = false
is_number (c ∷ []) = true
is_number (c ∷ d ∷ rest) = not (c ∈ "0")

-- a number at the front
unfoldable pub number_at : List ℕ → Option (ℕ × List ℕ)
number_at text = is_number (run is_ascii_digit text) >> Some (number (run is_ascii_digit text), behind is_ascii_digit text)

-- the bounds on the number of repetitions of a part, and the text behind the count
pub record Count : Type 0 where
  pub least : ℕ
  pub most : ℕ
  pub rest : List ℕ

-- behind `{n,`: a number and a brace
unfoldable pub bounded : ℕ → List ℕ → Option Count
bounded least text = do
  (most, rest) ← number_at text
  begins "}" rest >> Some (record { least = least; most = most; rest = drop 1 rest })

-- behind `{n`: `}`, `,}` or `,m}`; without a greatest number, n takes its place
unfoldable pub count_behind : ℕ → List ℕ → Option Count
count_behind least text =
    if begins "}" text then Some (record { least = least; most = least; rest = drop 1 text })
    else if begins ",}" text then Some (record { least = least; most = least; rest = drop 2 text })
    else if begins "," text then bounded least (drop 1 text) else None

-- behind `{`: a count
unfoldable pub count_at : List ℕ → Option Count
count_at text = do
  (least, rest) ← number_at text
  count_behind least rest

-- the text without the `?` at the front, if one is there
unfoldable pub skip_lazy : List ℕ → List ℕ
skip_lazy text = if begins "?" text then drop 1 text else text

-- a repetition up to this number of times, with the `?` behind it if one is there
unfoldable pub repetition : List ℕ → ℕ → List ℕ → Read
repetition text most rest = outside (Repeat (max most 1)) (before text (skip_lazy rest)) (skip_lazy rest)

-- the repetition of a count whose numbers are in order and at most 1,000
unfoldable pub counted : List ℕ → Count → Option Read
counted text count = (nat_le count.least count.most && nat_le count.most 1000) >> Some (repetition text count.most count.rest)

-- `{` at the front of the text: a count, or a character if no count follows
unfoldable pub brace : List ℕ → List ℕ → Option Read
brace text rest = elim (count_at rest) [
  | None ↦ Some (outside Atom (literal 0x7B) rest)
  | Some count ↦ counted text count
]

-- a character comes twice
unfoldable pub has_twice : List ℕ → Bool
has_twice [] = false
has_twice (c ∷ rest) = list_any (λ d. d == c) rest || has_twice rest

-- at least one flag, none of them twice, and something behind a hyphen
unfoldable pub are_flags : List ℕ → Bool
are_flags letters =
    not (length letters == 0) && nat_le (length letters) 5 && not (has_twice letters) && not (begins "-" (reverse letters))

-- at least one character, the first of which isn't a digit
unfoldable pub is_name : List ℕ → Bool
is_name [] = false
is_name (c ∷ rest) = not (is_ascii_digit c)

-- behind `(?P<`: a name of letters, digits and `_`, and `>`
unfoldable pub named_group : List ℕ → Option Read
named_group text = do
  begins ">" (behind is_word text) && is_name (run is_word text)
  Some (record { part = Some Open; written = codes "("; name = Some (run is_word text); place = Outside; rest = drop 1 (behind is_word text) })

-- behind `(?`: flags or none, and `:`, for a group; or flags and `)`, for the text behind them
unfoldable pub flagged_group : List ℕ → List ℕ → Option Read
flagged_group text rest =
    let flags = run is_flag rest in
    let after = behind is_flag rest in
    if begins ":" after then (length flags == 0 || are_flags flags) >> Some (outside Open (before text (drop 1 after)) (drop 1 after))
    else if begins ")" after then are_flags flags >> Some (outside Fixed (before text (drop 1 after)) (drop 1 after))
    else None

-- `(` at the front of the text
unfoldable pub group : List ℕ → List ℕ → Option Read
group text rest =
    if begins "?P<" rest then named_group (drop 3 rest)
    else if begins "?" rest then flagged_group text (drop 1 rest)
    else Some (outside Open (codes "(") rest)

-- `-` at the front, unless it ends the class
unfoldable pub is_range : List ℕ → Bool
is_range text = begins "-" text && not (begins "-]" text)

-- the text without the `^` at the front, if one is there
abbrev pub skip_negation : List ℕ → List ℕ
skip_negation text = if begins "^" text then drop 1 text else text

-- behind `[:`, in a class: a name, perhaps behind `^`, and `:]`
unfoldable pub named_class : List ℕ → List ℕ → Option Read
named_class text rest =
    let after = behind is_word (skip_negation rest) in
    (begins ":]" after && is_one_of class_names (run is_word (skip_negation rest))) >> Some (of_class (before text (drop 2 after)) (drop 2 after))

-- a character of a class, by itself or behind a backslash
unfoldable pub member : List ℕ → Option (ℕ × List ℕ)
member [] = None
member (c ∷ rest) = if c ∈ "\\" then escaped_character rest else Some (c, rest)

-- the last character of a range
unfoldable pub range_end : List ℕ → Option (ℕ × List ℕ)
range_end text = if begins "[" text || begins "-" text then None else member text

-- a range whose characters are in order
unfoldable pub range_of : ℕ → ℕ → List ℕ → Option Read
range_of low high rest = nat_le low high >> Some (of_class (literal low ++ 0x2D ∷ literal high) rest)

-- behind the hyphen: the last character of a range
unfoldable pub range_from : ℕ → List ℕ → Option Read
range_from low text = do
  (high, rest) ← range_end text
  range_of low high rest

-- behind the first character: the hyphen and the last character of a range, or else the first one alone
unfoldable pub range : ℕ → List ℕ → Option Read
range low text = if is_range text then range_from low (drop 1 text) else Some (of_class (literal low) text)

-- a set in a class, with which no range begins
unfoldable pub set_in_class : List ℕ → List ℕ → Option Read
set_in_class written rest = not (is_range rest) >> Some (of_class written rest)

-- `\p` or `\P` in a class
unfoldable pub property_in_class : Bool → List ℕ → Option Read
property_in_class negated text = do
  (written, rest) ← property_at negated text
  set_in_class written rest

-- a character or a range
unfoldable pub range_at : List ℕ → Option Read
range_at text = do
  (low, rest) ← member text
  range low rest

-- an escape in a class
unfoldable pub escape_in_class : List ℕ → List ℕ → Option Read
escape_in_class text [] = None
escape_in_class text (c ∷ rest) =
    if c ∈ "pP" then property_in_class (c ∈ "P") rest
    else if is_perl c then set_in_class (perl c) rest
    else range_at text

-- at the start of a class, where `]` and `-` stand for themselves
unfoldable pub class_item : List ℕ → Option Read
class_item text =
    if begins "[:" text then named_class text (drop 2 text)
    else if begins "\\" text then escape_in_class text (drop 1 text)
    else range_at text

-- further on in a class
unfoldable pub later_item : List ℕ → Option Read
later_item text =
    if begins "]" text then Some (outside Atom (before text (drop 1 text)) (drop 1 text))
    else if is_range text then None
    else class_item text

-- `[` at the front of the text
unfoldable pub class_start : List ℕ → List ℕ → Read
class_start text rest =
    record { part = None; written = before text (skip_negation rest); name = None; place = ClassStart; rest = skip_negation rest }

-- a character outside of classes that begins nothing longer
unfoldable pub sign : List ℕ → ℕ → List ℕ → Read
sign text c rest =
    if c ∈ "*+?" then repetition text 1 rest
    else if c ∈ ")" then outside Close (before text rest) rest
    else if c ∈ "|" then outside Bar (before text rest) rest
    else if c ∈ "." then outside Atom (before text rest) rest
    else if c ∈ "^$" then outside Fixed (before text rest) rest
    else outside Atom (literal c) rest

-- `\p` or `\P` outside of classes
unfoldable pub property_outside : Bool → List ℕ → Option Read
property_outside negated text = do
  (written, rest) ← property_at negated text
  Some (outside Atom written rest)

-- an escape outside of classes that stands for one character
unfoldable pub character_outside : List ℕ → Option Read
character_outside text = do
  (c, rest) ← escaped_character text
  Some (outside Atom (literal c) rest)

-- the start of a quotation
abbrev pub quotation : List ℕ → Read
quotation rest = record { part = Some Fixed; written = []; name = None; place = Quotation; rest = rest }

-- an escape outside of classes, whose backslash is at the front of the text
unfoldable pub escape : List ℕ → List ℕ → Option Read
escape text [] = None
escape text (c ∷ rest) =
    if c ∈ "pP" then property_outside (c ∈ "P") rest
    else if c ∈ "b" then Some (outside Fixed (codes "(?-u:\\b)") rest)
    else if c ∈ "Az" then Some (outside Fixed (before text rest) rest)
    else if c ∈ "Q" then Some (quotation rest)
    else if is_perl c then Some (outside Atom (perl c) rest)
    else character_outside (c ∷ rest)

-- the first piece outside of classes
unfoldable pub outside_piece : List ℕ → Option Read
outside_piece [] = None
outside_piece (c ∷ rest) =
    if c ∈ "\\" then escape (c ∷ rest) rest
    else if c ∈ "[" then Some (class_start (c ∷ rest) rest)
    else if c ∈ "(" then group (c ∷ rest) rest
    else if c ∈ "{" then brace (c ∷ rest) rest
    else Some (sign (c ∷ rest) c rest)

-- the end of a quotation
abbrev pub quotation_end : List ℕ → Read
quotation_end rest = record { part = None; written = []; name = None; place = Outside; rest = rest }

-- a character of a quotation
abbrev pub quoted_character : ℕ → List ℕ → Read
quoted_character c rest = record { part = None; written = literal c; name = None; place = Quotation; rest = rest }

-- between `\Q` and `\E` each character stands for itself
unfoldable pub quoted : List ℕ → Option Read
quoted [] = None
quoted (c ∷ rest) = Some (if begins "\\E" (c ∷ rest) then quotation_end (drop 1 rest) else quoted_character c rest)

-- the first piece of a text, depending on the place where it stands
unfoldable pub first_piece : PatternPlace → List ℕ → Option Read
first_piece Outside text = outside_piece text
first_piece ClassStart text = class_item text
first_piece Class text = later_item text
first_piece Quotation text = quoted text
