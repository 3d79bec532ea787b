-- Laws of words.
use Rattle.std.specs.Prelude.{◌≢◌, ℕ, ◌<◌, ◌≤◌, List, All}

-- the text's numbers are bytes
abbrev pub AreBytes : List ℕ → Type 0
AreBytes text = All (λ byte. byte < 256) text

-- each byte is printed as a glyph: there is no blank and no end of a line among them
abbrev pub AreGlyphs : List ℕ → Type 0
AreGlyphs word = All (λ byte. (33 ≤ byte) × (byte ≤ 126)) word

-- none of the bytes is a comma
abbrev pub HasNoComma : List ℕ → Type 0
HasNoComma word = All (λ byte. byte ≢ 44) word
