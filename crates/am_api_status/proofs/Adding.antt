-- Additions to a text, one after the other.
use Rattle.std.proofs.Common.{◌≡◌, ℕ, ◌+◌, ◌<◌, List, [], ◌∷◌, ◌++◌, length, take, get_or, map, refl, sym, ap, ◌∙◌, append-nil}
use Rattle.std.specs.List.{flat_map}
use Rattle.std.proofs.lemmas.List.{take_more}
use Rattle.std.proofs.lemmas.Grind.{flat_map-append}
use Rattle.json.specs.Token.{Token}
use Rattle.json.specs.Written.{Written}
use Rattle.serde_json.specs.Data.{Data}
use Rattle.am_silence_json.specs.Tokens.{Adds, data_tokens, row_tokens}
use Rattle.am_silence_json.proofs.Bodies.{chain}

flat_more : {A : Type 0} (f : A → List Token) (xs : List A) (i : ℕ) (x : A) → i < length xs → x ≡ get_or xs i x
    → flat_map f (take (i + 1) xs) ≡ flat_map f (take i xs) ++ f x
flat_more f xs i x h is =
    ap (flat_map f) (take_more xs i x h) ∙ flat_map-append f (take i xs) (get_or xs i x ∷ [])
    ∙ ap (λ ts. flat_map f (take i xs) ++ ts) (append-nil (f (get_or xs i x))) ∙ ap (λ y. flat_map f (take i xs) ++ f y) (sym is)

-- the tokens of one element more
tokens_more : {A : Type 0} (f : A → List Token) {a b c : Written} (xs : List A) (i : ℕ) (x : A) → i < length xs → x ≡ get_or xs i x
    → Adds a b (flat_map f (take i xs)) → Adds b c (f x) → Adds a c (flat_map f (take (i + 1) xs))
tokens_more f xs i x h is first second = rw (flat_more f xs i x h is) (chain first second)

map_rows : {A : Type 0} (value : A → Data) (xs : List A) → flat_map (λ x. data_tokens (value x)) xs ≡ row_tokens (map value xs)
map_rows value [] = refl
map_rows value (x ∷ xs) = ap (λ ts. data_tokens (value x) ++ ts) (map_rows value xs)

-- one value more
pub row_more : {A : Type 0} (value : A → Data) {a b c : Written} (xs : List A) (i : ℕ) (x : A) → i < length xs → x ≡ get_or xs i x
    → Adds a b (row_tokens (map value (take i xs))) → Adds b c (data_tokens (value x)) → Adds a c (row_tokens (map value (take (i + 1) xs)))
row_more value xs i x h is first second =
    rw (← map_rows value (take (i + 1) xs)) (tokens_more (λ y. data_tokens (value y)) xs i x h is (rw (map_rows value (take i xs)) first) second)
