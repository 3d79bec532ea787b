-- Values that are added one after the other.
use Rattle.std.proofs.Common.{◌≡◌, Bool, true, false, cond, nat_lt, nat_cmp, ◌==◌, List, ℕ, [], ◌∷◌, ◌++◌, map, sym, ap, ◌∙◌, refl, append_assoc}
use Rattle.std.specs.List.{flat_map}
use Rattle.std.specs.Ordering.{is_lt}
use Rattle.std.specs.declared.cmp.Ordering.TheVariants.{Less, Equal, Greater}
use Rattle.am_version_order.specs.Versions.{Version, is_live}
use Rattle.am_merge.specs.Maps.{swept}
use Rattle.json.specs.Print.{print}
use Rattle.json.specs.Written.{Written}
use Rattle.serde_json.specs.Data.{Data}
use Rattle.serde_json.specs.Written.{compact_text}
use Rattle.am_silence_json.specs.Tokens.{Adds, data_tokens, row_tokens}
use Rattle.am_silence_json.proofs.Bodies.{body_is}

-- the next value, and those that are left
pub value_more : {A : Type 0} (value : A → Data) {a b : Written} {left others : List A} {x : A} → left ≡ x ∷ others → Adds a b (data_tokens (value x))
    → b.tokens ++ row_tokens (map value others) ≡ a.tokens ++ row_tokens (map value left)
value_more value {a} {b} {left} {others} {x} first added =
    ap (λ ts. ts ++ row_tokens (map value others)) added.tokens
    ∙ append_assoc a.tokens (data_tokens (value x)) (row_tokens (map value others))
    ∙ ap (λ xs. a.tokens ++ row_tokens (map value xs)) (sym first)

-- the line of a value whose tokens were added to a new writer
pub line_is : (first last : Written) (line start : List ℕ) (d : Data) → first.before ≡ start → start ≡ [] → first.tokens ≡ [] → Adds first last (data_tokens d)
    → line ≡ last.before ++ print last.tokens ++ 10 ∷ [] → line ≡ compact_text d ++ 10 ∷ []
line_is first last line start d before none tokens added e =
    e ∙ ap (λ text. text ++ 10 ∷ []) (body_is first last [] (last.before ++ print last.tokens) d (before ∙ none) tokens added refl)

-- values whose tokens were added one after the other
map_rows : {A : Type 0} (value : A → Data) (xs : List A) → flat_map (λ x. data_tokens (value x)) xs ≡ row_tokens (map value xs)
map_rows value [] = refl
map_rows value (x ∷ xs) = ap (λ ts. data_tokens (value x) ++ ts) (map_rows value xs)

pub row_of : {A : Type 0} (value : A → Data) (xs : List A) {a b : Written} → b.before ≡ a.before → b.tokens ≡ a.tokens ++ flat_map (λ x. data_tokens (value x)) xs
    → Adds a b (row_tokens (map value xs))
row_of value xs {a} {b} before tokens = record { before = before; tokens = tokens ∙ ap (λ ts. a.tokens ++ ts) (map_rows value xs) }

-- whether a moment is before another, as the order says it
is_lt_is : (before same : Bool) → is_lt (cond before Less (cond same Equal Greater)) ≡ before
is_lt_is true same = refl
is_lt_is false true = refl
is_lt_is false false = refl

-- a version that isn't in view
pub gone : {K X : Type 0} (seen : X → Version K) (now : ℕ) {expiry : ℕ} {left others : List X} {x : X} → false ≡ is_lt (nat_cmp now expiry) → expiry ≡ (seen x).expires → left ≡ x ∷ others
    → swept seen now others ≡ swept seen now left
gone seen now {expiry} {left} {others} {x} over is first =
    let past : is_live now (seen x) ≡ false = rw (← is) (sym (over ∙ is_lt_is (nat_lt now expiry) (now == expiry))) in
    rw (first, past) refl
