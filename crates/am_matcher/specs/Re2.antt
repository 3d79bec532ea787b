-- Patterns of RE2 (Go's `regexp`) that are taken, and the patterns of `regex` that match the same texts.
use Rattle.std.specs.Prelude.{◌≡◌, ◌≢◌, ℕ, suc, ◌*◌, ◌≤◌, List, [], ◌∷◌, ◌++◌, Option, Some, None, option_map, AllPairs, encode_utf8_all, chars}
use Rattle.am_matcher.specs.declared.re2.pieces.PatternPart.{PatternPart}
use Rattle.am_matcher.specs.declared.re2.pieces.PatternPart.TheVariants.{Atom, Fixed, Repeat, Open, Close, Bar}
use Rattle.am_matcher.specs.declared.re2.pieces.PatternPlace.{PatternPlace}
use Rattle.am_matcher.specs.declared.re2.pieces.PatternPlace.TheVariants.{Outside}
use Rattle.am_matcher.specs.Re2Spelling.{Read}
use Rattle.am_matcher.specs.Re2Pieces.{first_piece}

-- the contents of a text: its parts, the text that is written for it, and the names of its groups as UTF-8
pub record Contents : Type 0 where
  pub parts : List PatternPart
  pub written : List ℕ
  pub names : List (List ℕ)

-- the contents of an empty text
abbrev pub no_contents : Contents
no_contents = record { parts = []; written = []; names = [] }

-- the contents of one text and another behind it
abbrev pub join : Contents → Contents → Contents
join a b = record { parts = a.parts ++ b.parts; written = a.written ++ b.written; names = a.names ++ b.names }

-- a list of the value, if there is one
abbrev pub to_list : {A : Type 0} → Option A → List A
to_list None = []
to_list (Some a) = a ∷ []

-- the contents of one piece
abbrev pub of_piece : Read → Contents
of_piece piece = record {
  parts = to_list piece.part;
  written = piece.written;
  names = to_list (option_map encode_utf8_all piece.name);
}

-- From the place on, the text consists of pieces with these contents, and no class and no quotation is open at its end.
pub data IsRead : PatternPlace → List ℕ → Contents → Type 0 where
  nothing : IsRead Outside [] no_contents
  piece : {place : PatternPlace} {text : List ℕ} {more : Contents} (front : Read) →
      first_piece place text ≡ Some front → IsRead front.place front.rest more → IsRead place text (join (of_piece front) more)

-- A part is repeated this often in all: `times`, or with a repetition behind it the product of both, up to 1,000.
pub data IsRepeated (times : ℕ) : ℕ → List PatternPart → Type 0 where
  once : IsRepeated times times []
  often : {most : ℕ} → times * most ≤ 1000 → IsRepeated times (times * most) (Repeat most ∷ [])

-- The parts are branches of atoms and groups, which may be repeated, and of parts that may not. They are repeated `times`
-- in all by the groups around them, and groups within them are at most `levels` deep.
pub data IsExpression : ℕ → ℕ → List PatternPart → Type 0 where
  empty : {times levels : ℕ} → IsExpression times levels []
  fixed : {times levels : ℕ} {rest : List PatternPart} → IsExpression times levels rest → IsExpression times levels (Fixed ∷ rest)
  bar : {times levels : ℕ} {rest : List PatternPart} → IsExpression times levels rest → IsExpression times levels (Bar ∷ rest)
  atom : {times levels often : ℕ} {repeats rest : List PatternPart} → IsRepeated times often repeats →
      IsExpression times levels rest → IsExpression times levels (Atom ∷ (repeats ++ rest))
  group : {times levels often : ℕ} {inside repeats rest : List PatternPart} → IsRepeated times often repeats →
      IsExpression often levels inside → IsExpression times (suc levels) rest →
      IsExpression times (suc levels) (Open ∷ (inside ++ Close ∷ (repeats ++ rest)))

-- the parts are an expression, and no two groups have the same name
pub record IsSoundContents (contents : Contents) : Type 0 where
  pub is_expression : IsExpression 1 100 contents.parts
  pub distinct : AllPairs ◌≢◌ contents.names

-- the pattern of RE2 is taken, and `written` is the pattern of `regex` that is written for it
pub record IsTranslated (pattern written : List ℕ) : Type 0 where
  pub contents : Contents
  pub is_read : IsRead Outside pattern contents
  pub sound : IsSoundContents contents
  pub written_is : written ≡ contents.written

-- the same for texts as UTF-8
pub record IsTranslation (pattern translation : List ℕ) : Type 0 where
  pub written : List ℕ
  pub is_translated : IsTranslated (chars pattern) written
  pub encoded : translation ≡ encode_utf8_all written

-- the pattern of RE2 is taken
abbrev pub IsRe2 : List ℕ → Type 0
IsRe2 pattern = (translation : List ℕ) × IsTranslation pattern translation
