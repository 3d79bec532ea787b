-- Lists that are printed as one word.
use Rattle.std.specs.Prelude.{ℕ, List, [], ◌∷◌, map, codes}
use Rattle.std.specs.List.{flat_map, join_with_byte}
use Rattle.std.specs.Fmt.{decimal}
use Rattle.am_report.specs.Words.{listed_word_of}

-- words with commas between them, or `-` if there are none
abbrev pub listed : List (List ℕ) → List ℕ
listed [] = codes "-"
listed words = join_with_byte 44 words

-- the word of a list of numbers, in decimal
unfoldable pub numbers_word : List ℕ → List ℕ
numbers_word numbers = listed (map decimal numbers)

-- the word of a list of texts
unfoldable pub texts_word : List (List ℕ) → List ℕ
texts_word texts = listed (map listed_word_of texts)

-- the words of all, each after a comma
abbrev pub behind_commas : {X : Type 0} → (X → List ℕ) → List X → List ℕ
behind_commas word xs = flat_map (λ x. 44 ∷ word x) xs
