-- Additions to a text, one after the other.
use Rattle.std.proofs.Common.{◌≡◌, ℕ, ◌+◌, ◌<◌, List, [], ◌∷◌, ◌++◌, length, take, get_or, map, refl, sym, ap, ◌∙◌, append-nil, append_assoc}
use Rattle.std.specs.List.{flat_map}
use Rattle.std.proofs.lemmas.List.{take_more}
use Rattle.std.proofs.lemmas.Grind.{flat_map-append}
use Rattle.json.specs.Token.{Token, key, string, begin_object, end_object}
use Rattle.json.specs.Tree.{members_tokens}
use Rattle.json.specs.Written.{Written}
use Rattle.serde_json.specs.Data.{Data}
use Rattle.serde_json.specs.Written.{members_outline}
use Rattle.am_matcher.specs.declared.labels.Label.{Label}
use Rattle.am_silence_json.specs.Tokens.{Adds, data_tokens, row_tokens}
use Rattle.am_silence_json.proofs.Bodies.{chain}
use Rattle.am_api_decisions.specs.Answers.{label_members, label_tokens, labels_data}

-- the next value of an iterator, and those that are left
pub value_more : {A : Type 0} (value : A → Data) {a b : Written} {left others : List A} {x : A} → left ≡ x ∷ others → Adds a b (data_tokens (value x))
    → b.tokens ++ row_tokens (map value others) ≡ a.tokens ++ row_tokens (map value left)
value_more value {a} {b} {left} {others} {x} first added =
    ap (λ ts. ts ++ row_tokens (map value others)) added.tokens
    ∙ append_assoc a.tokens (data_tokens (value x)) (row_tokens (map value others))
    ∙ ap (λ xs. a.tokens ++ row_tokens (map value xs)) (sym first)

flat_more : {A : Type 0} (f : A → List Token) (xs : List A) (i : ℕ) (x : A) → i < length xs → x ≡ get_or xs i x
    → flat_map f (take (i + 1) xs) ≡ flat_map f (take i xs) ++ f x
flat_more f xs i x h is =
    ap (flat_map f) (take_more xs i x h) ∙ flat_map-append f (take i xs) (get_or xs i x ∷ [])
    ∙ ap (λ ts. flat_map f (take i xs) ++ ts) (append-nil (f (get_or xs i x))) ∙ ap (λ y. flat_map f (take i xs) ++ f y) (sym is)

-- the tokens of one element more
pub tokens_more : {A : Type 0} (f : A → List Token) {a b c : Written} (xs : List A) (i : ℕ) (x : A) → i < length xs → x ≡ get_or xs i x
    → Adds a b (flat_map f (take i xs)) → Adds b c (f x) → Adds a c (flat_map f (take (i + 1) xs))
tokens_more f xs i x h is first second = rw (flat_more f xs i x h is) (chain first second)

map_rows : {A : Type 0} (value : A → Data) (xs : List A) → flat_map (λ x. data_tokens (value x)) xs ≡ row_tokens (map value xs)
map_rows value [] = refl
map_rows value (x ∷ xs) = ap (λ ts. data_tokens (value x) ++ ts) (map_rows value xs)

-- one value more
pub row_more : {A : Type 0} (value : A → Data) {a b c : Written} (xs : List A) (i : ℕ) (x : A) → i < length xs → x ≡ get_or xs i x
    → Adds a b (row_tokens (map value (take i xs))) → Adds b c (data_tokens (value x)) → Adds a c (row_tokens (map value (take (i + 1) xs)))
row_more value xs i x h is first second =
    rw (← map_rows value (take (i + 1) xs)) (tokens_more (λ y. data_tokens (value y)) xs i x h is (rw (map_rows value (take i xs)) first) second)

-- the tokens of labels, with the closing bracket
members_are : (labels : List Label) → members_tokens (members_outline (label_members labels)) ≡ flat_map label_tokens labels ++ end_object ∷ []
members_are [] = refl
members_are (label ∷ labels) = ap (λ ts. key label.name ∷ string label.value ∷ ts) (members_are labels)

-- with the brackets, they are the object
pub labels_are :
    (a b c d : Written) (labels : List Label) → Adds a b (begin_object ∷ []) → Adds b c (flat_map label_tokens labels) → Adds c d (end_object ∷ [])
    → Adds a d (data_tokens (labels_data labels))
labels_are a b c d labels opening row closing =
    let whole = chain opening (chain row closing) in
    record { before = whole.before; tokens = whole.tokens ∙ ap (λ ts. a.tokens ++ begin_object ∷ ts) (sym (members_are labels)) }
