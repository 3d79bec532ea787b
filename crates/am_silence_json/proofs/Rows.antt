-- One value more.
use Rattle.std.proofs.Common.{◌≡◌, ℕ, ◌+◌, ◌<◌, List, [], ◌∷◌, ◌++◌, length, take, get_or, map, sym, ap, ◌∙◌, append-nil, append_assoc}
use Rattle.std.proofs.lemmas.List.{take_more}
use Rattle.std.proofs.lemmas.Grind.{flat_map-append}
use Rattle.json.specs.Written.{Written}
use Rattle.serde_json.specs.Data.{Data}
use Rattle.am_silence.specs.declared.matcher.Matcher.{Matcher}
use Rattle.am_silence.specs.declared.state.State.{State}
use Rattle.am_silence.specs.Mesh.{Mesh}
use Rattle.am_silence_json.specs.Gettables.{matcher_data, IsGettable, AreGettable}
use Rattle.am_silence_json.specs.Tokens.{Adds, data_tokens, row_tokens}
use Rattle.am_silence_json.proofs.Bodies.{chain}

row_more : (ds : List Data) (d : Data) → row_tokens (ds ++ d ∷ []) ≡ row_tokens ds ++ data_tokens d
row_more ds d = flat_map-append data_tokens ds (d ∷ []) ∙ ap (λ ts. row_tokens ds ++ ts) (append-nil (data_tokens d))

pub one_more : {a b c : Written} (ds : List Data) (d : Data) → Adds a b (row_tokens ds)
    → Adds b c (data_tokens d) → Adds a c (row_tokens (ds ++ d ∷ []))
one_more ds d first second = rw (row_more ds d) (chain first second)

-- the next matcher, and those that are left
pub matcher_more : {a b : Written} {left others : List Matcher} {m : Matcher} → left ≡ m ∷ others → Adds a b (data_tokens (matcher_data m))
    → b.tokens ++ row_tokens (map matcher_data others) ≡ a.tokens ++ row_tokens (map matcher_data left)
matcher_more {a} {b} {left} {others} {m} first added =
    ap (λ ts. ts ++ row_tokens (map matcher_data others)) added.tokens
    ∙ append_assoc a.tokens (data_tokens (matcher_data m)) (row_tokens (map matcher_data others))
    ∙ ap (λ (ms : List Matcher). a.tokens ++ row_tokens (map matcher_data ms)) (sym first)

gettable_more : (rows : List (Mesh × State)) (ds : List Data) (row : Mesh × State) (d : Data)
    → AreGettable rows ds → IsGettable row.0.silence row.1 d → AreGettable (rows ++ row ∷ []) (ds ++ d ∷ [])
gettable_more [] [] row d h here = (here, tt)
gettable_more [] (e ∷ ds) row d h here = absurd h
gettable_more (r ∷ rows) [] row d h here = absurd h
gettable_more (r ∷ rows) (e ∷ ds) row d h here = (h.0, gettable_more rows ds row d h.1 here)

pub row_more_gettable :
    (rows : List (Mesh × State)) (i : ℕ) (ds : List Data) (row : Mesh × State) (d : Data) → i < length rows → row ≡ get_or rows i row
    → AreGettable (take i rows) ds → IsGettable row.0.silence row.1 d → AreGettable (take (i + 1) rows) (ds ++ d ∷ [])
row_more_gettable rows i ds row d h e before here = rw (take_more rows i row h, ← e) (gettable_more (take i rows) ds row d before here)
