-- The text of a list of silences is read again.
use Rattle.std.proofs.Common.{◌≡◌, ℕ, ◌≤◌, List, [], ◌∷◌, ◌++◌, map, Some, option_and_then, refl, sym, ap, ◌∙◌, arith, append-nil}
use Rattle.json.specs.Json as json
use Rattle.json.specs.Lex.{tokens}
use Rattle.json.specs.Tree as tree
use Rattle.json.proofs.Printed.Tokens.{tokens-print}
use Rattle.json.proofs.Printed.Trees.{value-json_tokens, ArePrintable-json_tokens}
use Rattle.serde_json.specs.Data.{Data, array}
use Rattle.serde_json.specs.Read.{of_json, of_items, read, max_depth}
use Rattle.serde_json.specs.View.{items_of}
use Rattle.serde_json.specs.Written.{outline, items_outline, compact_text}
use Rattle.serde_json.proofs.Texts.{print-outline}
use Rattle.am_silence.specs.declared.matcher.Matcher.{Matcher}
use Rattle.am_silence.specs.declared.silence.Silence.{Silence}
use Rattle.am_silence.specs.declared.state.State.{State}
use Rattle.am_silence.specs.Mesh.{Mesh}
use Rattle.am_silence_json.specs.Gettables.{matcher_data, gettable_data, AreGettable}

-- ---- a value that is written without numbers, and its keys in order, is read as itself

-- its text is read as the value
pub record ReadsAgain (d : Data) (deep : ℕ) : Type 0 where
  pub value : of_json (outline d) ≡ Some d
  pub numbers : tree.HasNumbers (outline d)
  pub depth : tree.depth (outline d) ≤ deep

record ItemsReadAgain (ds : List Data) (deep : ℕ) : Type 0 where
  value : of_items (items_outline (items_of ds)) ≡ Some (items_of ds)
  numbers : tree.ItemsHaveNumbers (items_outline (items_of ds))
  depth : tree.items_depth (items_outline (items_of ds)) ≤ deep

no_items_again : (deep : ℕ) → ItemsReadAgain [] deep
no_items_again deep = record { value = refl; numbers = tt; depth = omega arith }

item_again : {d : Data} {ds : List Data} {deep : ℕ} → ReadsAgain d deep → ItemsReadAgain ds deep → ItemsReadAgain (d ∷ ds) deep
item_again {d} {ds} {deep} h k = record {
  value = rw (h.value, k.value) refl;
  numbers = (h.numbers, k.numbers);
  depth = omega (arith, h.depth, k.depth);
}

matcher_again : (m : Matcher) → ReadsAgain (matcher_data m) 1
matcher_again m = record { value = refl; numbers = (tt, (tt, (tt, (tt, tt)))); depth = omega arith }

matchers_again : (ms : List Matcher) → ItemsReadAgain (map matcher_data ms) 1
matchers_again [] = no_items_again 1
matchers_again (m ∷ ms) = item_again (matcher_again m) (matchers_again ms)

gettable_again : (s : Silence) (state : State) (starts ends updated : List ℕ) → ReadsAgain (gettable_data s state starts ends updated) 3
gettable_again s state starts ends updated =
    let ms = matchers_again s.matchers in
    record {
      value = rw ms.value refl;
      numbers = (tt, (tt, (tt, (tt, (ms.numbers, (tt, ((tt, tt), (tt, tt))))))));
      depth = omega (arith, ms.depth);
    }

gettables_again : (rows : List (Mesh × State)) (ds : List Data) → AreGettable rows ds → ItemsReadAgain ds 3
gettables_again [] [] h = no_items_again 3
gettables_again [] (d ∷ ds) h = absurd h
gettables_again (row ∷ rows) [] h = absurd h
gettables_again (row ∷ rows) (d ∷ ds) h =
    let g = h.0 in
    item_again (rw g.value (gettable_again row.0.silence row.1 g.starts g.ends g.updated)) (gettables_again rows ds h.1)

text_again : (d : Data) (deep : ℕ) → deep ≤ max_depth → ReadsAgain d deep → read (compact_text d) ≡ Some d
text_again d deep shallow h =
    let j = outline d in
    let lexed : tokens (compact_text d) ≡ tree.json_tokens j ++ [] =
    ap tokens (sym (print-outline d)) ∙ tokens-print (tree.json_tokens j) (ArePrintable-json_tokens j h.numbers) ∙ sym (append-nil (tree.json_tokens j)) in
    ap (λ o. option_and_then of_json (option_and_then (λ p. json.if_last p.0 p.1) o))
    (ap (json.value max_depth) lexed ∙ value-json_tokens j max_depth [] (omega (arith, h.depth))) ∙ h.value

pub list_again : (rows : List (Mesh × State)) (ds : List Data) → AreGettable rows ds
    → read (compact_text (array (items_of ds))) ≡ Some (array (items_of ds))
list_again rows ds h =
    let all = gettables_again rows ds h in
    text_again (array (items_of ds)) 4 (omega arith)
    (record { value = rw all.value refl; numbers = all.numbers; depth = omega (arith, all.depth) })
