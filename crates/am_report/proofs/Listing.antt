-- Lists that are written word by word.
use Rattle.std.proofs.Common.{◌≡◌, ℕ, ◌+◌, ◌<◌, List, [], ◌∷◌, ◌++◌, length, take, get_or, map, refl, sym, ap, ◌∙◌, append-nil, codes}
use Rattle.std.specs.Fmt.{decimal}
use Rattle.std.proofs.lemmas.List.{take_more, flat_map_more}
use Rattle.am_silence.specs.declared.matcher.Matcher.{Matcher}
use Rattle.am_report.specs.Long.{matcher_word, matchers_word}
use Rattle.am_report.specs.Words.{listed_word_of}
use Rattle.am_report.specs.Lists.{listed, numbers_word, texts_word, behind_commas}

-- the first word, and the others behind commas
listed_first : {X : Type 0} (word : X → List ℕ) (x : X) (xs : List X) → listed (map word (x ∷ xs)) ≡ word x ++ behind_commas word xs
listed_first word x [] = sym (append-nil (word x))
listed_first word x (y ∷ ys) = ap (λ rest. word x ++ (44 ∷ rest)) (listed_first word y ys)

pub numbers_first : (all ns : List ℕ) (n : ℕ) → all ≡ n ∷ ns → decimal n ++ behind_commas decimal ns ≡ numbers_word all
unfolding numbers_word
numbers_first all ns n is = rw is (sym (listed_first decimal n ns))

pub texts_first : (all texts : List (List ℕ)) (text : List ℕ) → all ≡ text ∷ texts → listed_word_of text ++ behind_commas listed_word_of texts ≡ texts_word all
unfolding texts_word
texts_first all texts text is = rw is (sym (listed_first listed_word_of text texts))

pub matchers_first : (all ms : List Matcher) (m : Matcher) → all ≡ m ∷ ms → matcher_word m ++ behind_commas matcher_word ms ≡ matchers_word all
unfolding matchers_word
matchers_first all ms m is = rw is (sym (listed_first matcher_word m ms))

pub matchers_none : (ms : List Matcher) → ms ≡ [] → codes "-" ≡ matchers_word ms
unfolding matchers_word
matchers_none ms none = rw none refl

-- one more word
pub commas_more : {X : Type 0} (word : X → List ℕ) (xs : List X) (i : ℕ) (d : X) → i < length xs →
    behind_commas word (take i xs) ++ (44 ∷ word (get_or xs i d)) ≡ behind_commas word (take (i + 1) xs)
commas_more word xs i d within =
    flat_map_more (λ x. 44 ∷ word x) [] (take i xs) (get_or xs i d) ∙ ap (behind_commas word) (sym (take_more xs i d within))

-- the same behind those that are written
pub commas_next : {X : Type 0} (word : X → List ℕ) (done : List X) (x : X) → behind_commas word done ++ (44 ∷ word x) ≡ behind_commas word (done ++ x ∷ [])
commas_next word done x = flat_map_more (λ y. 44 ∷ word y) [] done x

-- nothing in the list
pub numbers_none : (ns : List ℕ) → ns ≡ [] → codes "-" ≡ numbers_word ns
unfolding numbers_word
numbers_none ns none = rw none refl

pub no_numbers : (ns : List ℕ) → length ns ≡ 0 → codes "-" ≡ numbers_word ns
unfolding numbers_word
no_numbers [] none = refl
no_numbers (n ∷ ns) none = absurd cc

pub texts_none : (texts : List (List ℕ)) → length texts ≡ 0 → codes "-" ≡ texts_word texts
unfolding texts_word
texts_none [] none = refl
texts_none (text ∷ texts) none = absurd cc
