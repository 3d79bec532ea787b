-- The text of a value's tokens.
use Rattle.std.proofs.Common.{◌≡◌, ℕ, List, [], ◌∷◌, ◌++◌, sym, ap, ap₂, ◌∙◌, refl, append_assoc}
use Rattle.json.specs.Token.{Token, begin_array, end_array}
use Rattle.json.specs.Print.{print}
use Rattle.json.specs.Tree.{items_tokens}
use Rattle.json.specs.Written.{Written}
use Rattle.serde_json.specs.Data.{Data}
use Rattle.serde_json.specs.View.{items_of}
use Rattle.serde_json.specs.Written.{items_outline, compact_text}
use Rattle.serde_json.proofs.Texts.{print-outline}
use Rattle.am_silence_json.specs.Tokens.{Adds, data_tokens, row_tokens}

-- a writer that was new gives the text of the value whose tokens were added
pub body_is :
    (first last : Written) (out items : List ℕ) (d : Data) → first.before ≡ out → first.tokens ≡ [] → Adds first last (data_tokens d)
    → items ≡ last.before ++ print last.tokens → items ≡ out ++ compact_text d
body_is first last out items d before tokens added e =
    e ∙ ap₂ (λ a b. a ++ print b) (added.before ∙ before) (added.tokens ∙ ap (λ ts. ts ++ data_tokens d) tokens)
    ∙ ap (λ text. out ++ text) (print-outline d)

-- the tokens of a list: those of its items, and the closing bracket
pub items_are : (ds : List Data) → items_tokens (items_outline (items_of ds)) ≡ row_tokens ds ++ end_array ∷ []
items_are [] = refl
items_are (d ∷ ds) = ap (λ ts. data_tokens d ++ ts) (items_are ds) ∙ sym (append_assoc (data_tokens d) (row_tokens ds) (end_array ∷ []))

-- the same, behind what was added before
pub chain : {a b c : Written} {xs ys : List Token} → Adds a b xs → Adds b c ys → Adds a c (xs ++ ys)
chain {a} {b} {c} {xs} {ys} first second = record {
  before = second.before ∙ first.before;
  tokens = second.tokens ∙ ap (λ ts. ts ++ ys) first.tokens ∙ append_assoc a.tokens xs ys;
}

-- with the brackets, it is the list
pub list_is :
    (a b c d : Written) (ds : List Data) → Adds a b (begin_array ∷ []) → Adds b c (row_tokens ds) → Adds c d (end_array ∷ [])
    → Adds a d (begin_array ∷ items_tokens (items_outline (items_of ds)))
list_is a b c d ds opening row closing =
    let whole = chain opening (chain row closing) in
    record { before = whole.before; tokens = whole.tokens ∙ ap (λ ts. a.tokens ++ begin_array ∷ ts) (sym (items_are ds)) }
