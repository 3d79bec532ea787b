-- The filters of a query (Alertmanager's matchers, such as `job=~"x|y"`): a name, a sign and a value. All texts here are
-- lists of characters. They are read as a whole, and in one way only.
use Rattle.std.specs.Prelude.{◌≡◌, ◌⊎◌, ℕ, ◌==◌, Bool, true, false, not, ◌&&◌, ◌||◌, List, [], ◌∷◌, ◌++◌, reverse, map}
use Rattle.std.specs.Prelude.{nat_eq, codes, chars, encode_utf8_all, Option, Some, None, if◌then◌else◌}
use Rattle.std.specs.Char.{is_ascii_whitespace, is_ascii_alphanumeric, is_ascii_digit}
use Rattle.std.specs.List.{list_any, list_all, starts_with}
use Rattle.am_silence.specs.declared.matcher.Matcher.{Matcher}
use Rattle.am_silence.specs.declared.matcher.MatcherKind.{MatcherKind}
use Rattle.am_silence.specs.declared.matcher.MatcherKind.TheVariants as kinds
use Rattle.am_matcher.specs.declared.pieces.Piece.{Piece}

-- a space, a tab, a line feed, a form feed or a carriage return
abbrev pub is_blank : ℕ → Bool
is_blank = is_ascii_whitespace

-- a letter, a digit, `_` or `:`
abbrev pub is_name_character : ℕ → Bool
is_name_character c = is_ascii_alphanumeric c || (c == 0x5F) || (c == 0x3A)

-- a letter, `_` or `:`
abbrev pub begins_name : ℕ → Bool
begins_name c = is_name_character c && not (is_ascii_digit c)

-- the first character passes the test
abbrev pub begins_with : (ℕ → Bool) → List ℕ → Bool
begins_with test [] = false
begins_with test (c ∷ rest) = test c

-- the front of the text that passes the test, as long as possible, and the rest
pub record IsRun (test : ℕ → Bool) (text front rest : List ℕ) : Type 0 where
  pub joined : text ≡ front ++ rest
  pub pass : list_all test front ≡ true
  pub stops : begins_with test rest ≡ false

-- one or more characters of a name, the first of which isn't a digit
pub record IsName (name : List ℕ) : Type 0 where
  pub characters : list_all is_name_character name ≡ true
  pub first : begins_with begins_name name ≡ true

-- the sign of a kind
abbrev pub sign_of : MatcherKind → List ℕ
sign_of kinds.Regexp = codes "=~"
sign_of kinds.NotRegexp = codes "!~"
sign_of kinds.NotEqual = codes "!="
sign_of kinds.Equal = codes "="

-- the first of the signs, in this order, with which the text begins
abbrev pub sign_at : List ℕ → Option MatcherKind
sign_at text =
    if starts_with nat_eq text (codes "=~") then Some kinds.Regexp
    else (if starts_with nat_eq text (codes "!~") then Some kinds.NotRegexp
    else (if starts_with nat_eq text (codes "!=") then Some kinds.NotEqual
    else (if starts_with nat_eq text (codes "=") then Some kinds.Equal else None)))

-- the character that a backslash and this character stand for: a quote, a backslash or a line feed; else none
abbrev pub escape_of : ℕ → Option ℕ
escape_of c = if c == 0x22 then Some 0x22 else (if c == 0x5C then Some 0x5C else (if c == 0x6E then Some 0x0A else None))

-- the character that two characters stand for if the first is a backslash, or none
abbrev pub escape_at : ℕ → ℕ → Option ℕ
escape_at c next = if c == 0x5C then escape_of next else None

-- A value is read from the left in pieces, each of which stands for one character: an escape, or the character itself.
abbrev pub pieces : List ℕ → List Piece
pieces [] = []
pieces (c ∷ []) = record { escaped = false; character = c } ∷ []
pieces (c ∷ next ∷ rest) = elim (escape_at c next) [
  | Some e ↦ record { escaped = true; character = e } ∷ pieces rest
  | None ↦ record { escaped = false; character = c } ∷ pieces (next ∷ rest)
]

-- a quote that isn't escaped
abbrev pub quote : Piece
quote = record { escaped = false; character = 0x22 }

-- a piece that is such a quote
abbrev pub is_quote : Piece → Bool
is_quote piece = not piece.escaped && (piece.character == 0x22)

-- the pieces inside are all pieces, or those between two quotes at the ends, and contain no further quote
pub record IsInside (all inside : List Piece) : Type 0 where
  pub plain : list_any is_quote inside ≡ false
  pub around : (all ≡ inside) ⊎ (all ≡ quote ∷ (inside ++ quote ∷ []))

-- the value that the characters stand for
pub record IsValue (written value : List ℕ) : Type 0 where
  pub inside : List Piece
  pub is_inside : IsInside (pieces written) inside
  pub characters : value ≡ map (λ piece. piece.character) inside

-- A name, a sign and a value as it is written, with blanks at both ends and around the sign.
pub record IsSplit (text : List ℕ) (kind : MatcherKind) (name written : List ℕ) : Type 0 where
  pub before : List ℕ
  pub between : List ℕ
  pub after : List ℕ
  pub behind : List ℕ
  pub joined : text ≡ before ++ (name ++ (between ++ (sign_of kind ++ (after ++ (written ++ behind)))))
  pub before_blank : list_all is_blank before ≡ true
  pub between_blank : list_all is_blank between ≡ true
  pub after_blank : list_all is_blank after ≡ true
  pub behind_blank : list_all is_blank behind ≡ true
  pub is_name : IsName name
  pub first_sign : sign_at (sign_of kind ++ (after ++ (written ++ behind))) ≡ Some kind
  pub begins : begins_with is_blank (written ++ behind) ≡ false
  pub ends : begins_with is_blank (reverse written) ≡ false

-- the text with these bytes is a filter that stands for the matcher
pub record IsFilter (bytes : List ℕ) (m : Matcher) : Type 0 where
  pub name : List ℕ
  pub written : List ℕ
  pub value : List ℕ
  pub split : IsSplit (chars bytes) m.kind name written
  pub is_value : IsValue written value
  pub name_is : m.name ≡ encode_utf8_all name
  pub pattern_is : m.pattern ≡ encode_utf8_all value
