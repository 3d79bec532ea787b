-- The text of an answer is read again as its value.
use Rattle.std.proofs.Common.{◌≡◌, ℕ, ◌<◌, ◌≤◌, ◌^◌, List, [], ◌∷◌, ◌++◌, map, Some, option_and_then, Less, Greater, nat_cmp, refl, sym, ap, ◌∙◌, arith, append-nil, append_assoc}
use Rattle.std.specs.Prelude.{All}
use Rattle.std.specs.Cmp.Lexicographic.{slice_cmp}
use Rattle.std.specs.List.{AllByRecursion}
use Rattle.std.specs.List.Sorted.{IsStrictlySortedBy}
use Rattle.std.specs.Ordering.{ordering_reverse}
use Rattle.std.proofs.lemmas.Cmp.{nat_list_cmp_total}
use Rattle.std.proofs.lemmas.List.Elements.{All-head, All-tail}
use Rattle.json.specs.Json as json
use Rattle.json.specs.Lex.{tokens}
use Rattle.json.specs.Tree as tree
use Rattle.json.proofs.Printed.Decimals.{IsNumber-decimal}
use Rattle.json.proofs.Printed.Tokens.{tokens-print}
use Rattle.json.proofs.Printed.Trees.{value-json_tokens, ArePrintable-json_tokens}
use Rattle.serde_json.specs.Data.{Data, string, member, put}
use Rattle.serde_json.specs.Read.{of_json, of_items, of_members, read, max_depth}
use Rattle.serde_json.specs.View.{items_of}
use Rattle.serde_json.specs.Written.{outline, items_outline, members_outline, compact_text}
use Rattle.serde_json.proofs.Numbers.{number_of-decimal}
use Rattle.serde_json.proofs.Texts.{print-outline}
use Rattle.am_matcher.specs.declared.labels.Label.{Label}
use Rattle.am_api_decisions.specs.declared.answer.Muted.{Muted}
use Rattle.am_api_decisions.specs.declared.answer.DecisionReply.{DecisionReply}
use Rattle.am_api_decisions.specs.Hashes.{hash_text}
use Rattle.am_api_decisions.specs.Answers.{label_members, muted_data, answer_data}
use Rattle.am_api_decisions.specs.Orders.{AreInOrder}
use Rattle.am_api_decisions.specs.Sound.{IsMuted, IsAnswer}

-- its text is read as the value
record ReadsAgain (d : Data) (deep : ℕ) : Type 0 where
  value : of_json (outline d) ≡ Some d
  numbers : tree.HasNumbers (outline d)
  depth : tree.depth (outline d) ≤ deep

record ItemsReadAgain (ds : List Data) (deep : ℕ) : Type 0 where
  value : of_items (items_outline (items_of ds)) ≡ Some (items_of ds)
  numbers : tree.ItemsHaveNumbers (items_outline (items_of ds))
  depth : tree.items_depth (items_outline (items_of ds)) ≤ deep

no_items_again : (deep : ℕ) → ItemsReadAgain [] deep
no_items_again deep = record { value = refl; numbers = tt; depth = omega arith }

item_again : {d : Data} {ds : List Data} {deep : ℕ} → ReadsAgain d deep → ItemsReadAgain ds deep → ItemsReadAgain (d ∷ ds) deep
item_again {d} {ds} {deep} h k = record {
  value = rw (h.value, k.value) refl;
  numbers = (h.numbers, k.numbers);
  depth = omega (arith, h.depth, k.depth);
}

string_again : (text : List ℕ) → ReadsAgain (string text) 0
string_again text = record { value = refl; numbers = tt; depth = omega arith }

strings_again : {A : Type 0} (text : A → List ℕ) (xs : List A) → ItemsReadAgain (map (λ x. string (text x)) xs) 0
strings_again text [] = no_items_again 0
strings_again text (x ∷ xs) = item_again (string_again (text x)) (strings_again text xs)

-- ---- labels

below_middle : (first : Label) (ls : List Label) (l : Label) (more : List Label)
    → AllByRecursion (λ name. slice_cmp nat_cmp first.name name ≡ Less) (map (λ (x : Label). x.name) (ls ++ l ∷ more)) → slice_cmp nat_cmp first.name l.name ≡ Less
below_middle first [] l more h = h.0
below_middle first (x ∷ ls) l more h = below_middle first ls l more h.1

-- a label whose name is above those before it goes last
put_last : (done : List Label) (l : Label) (more : List Label) → AreInOrder (done ++ l ∷ more)
    → put l.name (string l.value) (label_members done) ≡ label_members (done ++ l ∷ [])
unfolding IsStrictlySortedBy
put_last [] l more h = refl
put_last (first ∷ done) l more h =
    let above : slice_cmp nat_cmp l.name first.name ≡ Greater =
    nat_list_cmp_total.antisymm l.name first.name ∙ ap ordering_reverse (below_middle first done l more h.0) in
    rw above (ap (member first.name (string first.value)) (put_last done l more h.1))

labels_behind : (done more : List Label) → AreInOrder (done ++ more)
    → of_members (members_outline (label_members more)) (label_members done) ≡ Some (label_members (done ++ more))
labels_behind done [] h = ap (λ (ls : List Label). Some (label_members ls)) (sym (append-nil done))
labels_behind done (l ∷ more) h =
    let same : done ++ l ∷ more ≡ (done ++ l ∷ []) ++ more = sym (append_assoc done (l ∷ []) more) in
    let later = labels_behind (done ++ l ∷ []) more (rw (← same) h) in
    ap (of_members (members_outline (label_members more))) (put_last done l more h) ∙ later ∙ ap (λ (ls : List Label). Some (label_members ls)) (sym same)

labels_value : (labels : List Label) → AreInOrder labels → of_members (members_outline (label_members labels)) (label_members []) ≡ Some (label_members labels)
labels_value labels h = labels_behind [] labels h

labels_numbers : (labels : List Label) → tree.MembersHaveNumbers (members_outline (label_members labels))
labels_numbers [] = tt
labels_numbers (l ∷ labels) = (tt, labels_numbers labels)

labels_depth : (labels : List Label) → tree.members_depth (members_outline (label_members labels)) ≤ 0
labels_depth [] = omega arith
labels_depth (l ∷ labels) = omega (arith, labels_depth labels)

-- ---- muted alerts

muted_again : (m : Muted) → IsMuted m → ReadsAgain (muted_data m) 2
muted_again m h =
    let ids = strings_again (λ (text : List ℕ). text) m.silenced_by.items in
    record {
      value = rw (labels_value m.labels h.in_order, ids.value, number_of-decimal m.more h.more) refl;
      numbers = (labels_numbers m.labels, (ids.numbers, (IsNumber-decimal m.more h.more, tt)));
      depth = omega (arith, labels_depth m.labels, ids.depth);
    }

all_muted_again : (ms : List Muted) → All IsMuted ms → ItemsReadAgain (map muted_data ms) 2
all_muted_again [] h = no_items_again 2
all_muted_again (m ∷ ms) h = item_again (muted_again m (All-head IsMuted m ms h)) (all_muted_again ms (All-tail IsMuted m ms h))

-- ---- answers

answer_again : (a : DecisionReply) → IsAnswer a → ReadsAgain (answer_data a) 4
unfolding answer_data
answer_again a h =
    let firing = strings_again hash_text a.firing in
    let muted = all_muted_again a.muted.items h.muted in
    let resolved = strings_again hash_text a.resolved in
    let index_fits : a.index < 2 ^ 64 = omega (arith, h.index) in
    record {
      value = rw (firing.value, number_of-decimal a.index index_fits, muted.value, number_of-decimal a.repeat h.repeat, resolved.value, number_of-decimal a.turn_seconds h.turn_seconds) refl;
      numbers = (
        tt,
        (
          firing.numbers,
          (tt, (IsNumber-decimal a.index index_fits, (tt, (muted.numbers, (tt, (tt, (tt, (IsNumber-decimal a.repeat h.repeat, (resolved.numbers, (IsNumber-decimal a.turn_seconds h.turn_seconds, tt)))))))))),
        ),
      );
      depth = omega (arith, firing.depth, muted.depth, resolved.depth);
    }

text_again : (d : Data) (deep : ℕ) → deep ≤ max_depth → ReadsAgain d deep → read (compact_text d) ≡ Some d
text_again d deep shallow h =
    let j = outline d in
    let lexed : tokens (compact_text d) ≡ tree.json_tokens j ++ [] =
    ap tokens (sym (print-outline d)) ∙ tokens-print (tree.json_tokens j) (ArePrintable-json_tokens j h.numbers) ∙ sym (append-nil (tree.json_tokens j)) in
    ap (λ o. option_and_then of_json (option_and_then (λ p. json.if_last p.0 p.1) o))
    (ap (json.value max_depth) lexed ∙ value-json_tokens j max_depth [] (omega (arith, h.depth))) ∙ h.value

pub answer_is_read : (a : DecisionReply) → IsAnswer a → read (compact_text (answer_data a)) ≡ Some (answer_data a)
answer_is_read a h = text_again (answer_data a) 4 (omega arith) (answer_again a h)
