-- Texts as they are written in XML 1.0 (W3C Recommendation, fifth edition).
use Rattle.std.specs.Prelude.{ℕ, Bool, not, ◌==◌, ◌&&◌, ◌||◌, ◌-◌, nat_le, List, ◌∷◌, [], ◌++◌, length, take, Option, Some, None, unwrap_or, chars, codes, encode_utf8, if◌then◌else◌}
use Rattle.std.specs.List.{flat_map}

-- the characters of XML (section 2.2) among those that UTF-8 encodes; a carriage return would be read as the end of a line
-- (section 2.11)
abbrev pub is_plain : ℕ → Bool
is_plain c = c == 9 || c == 10 || nat_le 32 c && not (c == 65534) && not (c == 65535)

-- the text of a character that can't stand for itself: a reference (sections 4.1 and 4.6), or U+FFFD if XML doesn't have
-- the character
abbrev pub reference_of : ℕ → Option (List ℕ)
reference_of c =
    if c == 38 then Some (codes "&amp;") else
    if c == 60 then Some (codes "&lt;") else
    if c == 62 then Some (codes "&gt;") else
    if c == 34 then Some (codes "&quot;") else
    if c == 39 then Some (codes "&#39;") else
    if c == 13 then Some (codes "&#13;") else
    if is_plain c then None else Some (239 ∷ 191 ∷ 189 ∷ [])

-- the bytes that a character is written as
abbrev pub spelled : ℕ → List ℕ
spelled c = unwrap_or (reference_of c) (encode_utf8 c)

-- the bytes that a text is written as
abbrev pub escaped : List ℕ → List ℕ
escaped text = flat_map spelled (chars text)

-- a text of at most `most` characters: the rest is cut off, and an ellipsis (U+2026) stands for it
abbrev pub shortened : ℕ → List ℕ → List ℕ
shortened most text =
    if nat_le (length (chars text)) most then escaped text
    else flat_map spelled (take (most - 1) (chars text)) ++ 226 ∷ 128 ∷ 166 ∷ []
