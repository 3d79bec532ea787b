-- Texts printed as words: percent-encoding of the URL Standard, section 1.3, with sets of its own.
use Rattle.std.specs.Prelude.{ℕ, Bool, not, ◌==◌, ◌&&◌, nat_le, List, [], ◌∷◌, codes, if◌then◌else◌}
use Rattle.std.specs.List.{flat_map}
use Rattle.std.specs.Str.{bytes_eq}
use Rattle.percent_encoding.specs.Percent.{percent_encode_byte, percent_decode}

-- true if a byte stands for itself in a word: `!` to `~`, but not `%`
abbrev pub is_plain : ℕ → Bool
is_plain byte = nat_le 33 byte && nat_le byte 126 && not (byte == 37)

-- true if a byte stands for itself in a list, in which words have commas between them: a comma doesn't
abbrev pub is_plain_in_list : ℕ → Bool
is_plain_in_list byte = is_plain byte && not (byte == 44)

-- true if a byte stands for itself at the end of a line: a blank does, too
abbrev pub is_plain_at_end : ℕ → Bool
is_plain_at_end byte = nat_le 32 byte && nat_le byte 126 && not (byte == 37)

-- the spelling of a text: each byte that doesn't stand for itself is `%` and its two upper-case hexadecimal digits
abbrev pub spelled : (ℕ → Bool) → List ℕ → List ℕ
spelled plain text = flat_map (λ byte. if plain byte then byte ∷ [] else percent_encode_byte byte) text

-- the word of a text: the empty text is `-`, and so the text `-` is `%2D`
abbrev pub word_by : (ℕ → Bool) → List ℕ → List ℕ
word_by plain [] = codes "-"
word_by plain text = if bytes_eq text (codes "-") then codes "%2D" else spelled plain text

-- the word of a text
unfoldable pub word_of : List ℕ → List ℕ
word_of text = word_by is_plain text

-- the word of a text in a list that has commas between the words
unfoldable pub listed_word_of : List ℕ → List ℕ
listed_word_of text = word_by is_plain_in_list text

-- the spelling of a text at the end of a line
unfoldable pub tail_of : List ℕ → List ℕ
tail_of text = word_by is_plain_at_end text

-- the text of a word, of either kind
unfoldable pub text_of_word : List ℕ → List ℕ
text_of_word word = if bytes_eq word (codes "-") then [] else percent_decode word
