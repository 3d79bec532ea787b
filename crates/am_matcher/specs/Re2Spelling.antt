-- The spelling of RE2's pieces for `regex`. All texts here are lists of characters.
use Rattle.std.specs.Prelude.{ℕ, ◌-◌, Bool, List, [], ◌∷◌, ◌++◌, length, take, codes, Option, if◌then◌else◌}
use Rattle.regex_syntax.specs.Reading.{◌∈◌}
use Rattle.am_matcher.specs.declared.re2.pieces.PatternPart.{PatternPart}
use Rattle.am_matcher.specs.declared.re2.pieces.PatternPlace.{PatternPlace}
use Rattle.am_matcher.specs.declared.re2.pieces.Spelling.{Spelling}
use Rattle.am_matcher.specs.declared.re2.pieces.Spelling.TheVariants.{Source, Character, Range, Perl, Property, Boundary, Group, Nothing}

-- the piece at the front of a text, as it was read
pub record Read : Type 0 where
  -- the role of the piece, if it isn't inside of a class or of a quotation
  pub part : Option PatternPart
  pub written : List ℕ
  -- the name of the group that the piece opens
  pub name : Option (List ℕ)
  -- the place of the next piece
  pub place : PatternPlace
  pub rest : List ℕ

-- the text in front of its rest
unfoldable pub before : List ℕ → List ℕ → List ℕ
before text rest = take (length text - length rest) text

-- the character has a meaning of its own somewhere in a pattern of `regex`
unfoldable pub is_meta : ℕ → Bool
is_meta c = c ∈ "\\.+*?()|[]{}^$#&-~"

-- a character that stands for itself
unfoldable pub literal : ℕ → List ℕ
literal c = if is_meta c then 0x5C ∷ c ∷ [] else c ∷ []

-- the ASCII characters that `\d`, `\s` and `\w` stand for in RE2, or all other characters if the letter is in upper case
unfoldable pub perl : ℕ → List ℕ
perl letter =
    if letter ∈ "d" then codes "[0-9]"
    else if letter ∈ "D" then codes "[^0-9]"
    else if letter ∈ "s" then codes "[\\t\\n\\f\\r ]"
    else if letter ∈ "S" then codes "[^\\t\\n\\f\\r ]"
    else if letter ∈ "w" then codes "[0-9A-Za-z_]"
    else codes "[^0-9A-Za-z_]"

-- the characters with the property, or all others
unfoldable pub property : Bool → List ℕ → List ℕ
property negated name = (if negated then codes "\\P{" else codes "\\p{") ++ (name ++ codes "}")

-- the text that is written for a piece
unfoldable pub spelled : Spelling → List ℕ
spelled (Source source) = source.now
spelled (Character c) = literal c
spelled (Range low high) = literal low ++ 0x2D ∷ literal high
spelled (Perl letter) = perl letter
spelled (Property negated name) = property negated name.now
spelled Boundary = codes "(?-u:\\b)"
spelled Group = codes "("
spelled Nothing = []
