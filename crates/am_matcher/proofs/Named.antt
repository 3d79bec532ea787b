-- The values of labels in a map by their names.
use Rattle.std.proofs.Common.{◌≡◌, ℕ, ◌+◌, ◌<◌, Bool, true, false, cond, List, [], ◌∷◌, ◌++◌, length, take, find, reverse, get_or, Option, Some, refl, sym, ap, ◌∙◌}
use Rattle.std.specs.Prelude.{if◌then◌else◌}
use Rattle.std.specs.BTreeMap.{BTreeMap, UpdatesBy, get_by}
use Rattle.std.specs.Borrow.{Bor}
use Rattle.std.specs.Cmp.Lexicographic.{slice_cmp}
use Rattle.std.specs.Option.{option_map_or}
use Rattle.std.specs.Ordering.{nat_cmp}
use Rattle.std.proofs.lemmas.List.{reverse-append, take_more}
use Rattle.std.proofs.lemmas.Map.Text.{btree_map_updates_str}
use Rattle.am_matcher.specs.declared.labels.Label.{Label}
use Rattle.am_matcher.specs.Labels.{value_in, AreValuesOf}
use Rattle.am_matcher.specs.Texts.{is_text}

chosen : {X : Type 0} (value_of : X → List ℕ) (test : Bool) (x : X) (rest : Option X) →
    option_map_or value_of (cond test (Some x) rest) [] ≡ (if test then value_of x else option_map_or value_of rest [])
chosen value_of true x rest = refl
chosen value_of false x rest = refl

-- of a name the last label counts
value-last : (labels : List Label) (label : Label) (name : List ℕ) →
    value_in (labels ++ label ∷ []) name ≡ (if is_text label.name name then label.value else value_in labels name)
value-last labels label name =
    ap (λ (ls : List Label). option_map_or (λ (l : Label). l.value) (find (λ (l : Label). is_text l.name name) ls) []) (reverse-append labels (label ∷ []))
    ∙ chosen (λ (l : Label). l.value) (is_text label.name name) label (find (λ (l : Label). is_text l.name name) (reverse labels))

-- one label more
pub values_more : (labels : List Label) (i : ℕ) (label : Label) (key value : Bor (List ℕ)) (old new : BTreeMap (Bor (List ℕ)) (Bor (List ℕ))) →
    i < length labels → label ≡ get_or labels i label → key.now ≡ label.name → value.now ≡ label.value →
    UpdatesBy (λ x y. slice_cmp nat_cmp x.now y.now) (λ k. slice_cmp nat_cmp key.now k.now) old new (Some value) →
    AreValuesOf (take i labels) old → AreValuesOf (take (i + 1) labels) new
values_more labels i label key value old new within is named valued updates before = λ name.
    ap (λ (o : Option (Bor (List ℕ))). option_map_or (λ (v : Bor (List ℕ)). v.now) o []) (btree_map_updates_str key.now old new (Some value) updates name)
    ∙ chosen (λ (v : Bor (List ℕ)). v.now) (is_text key.now name) value (get_by (λ k. slice_cmp nat_cmp name k.now) old)
    ∙ ap (λ (rest : List ℕ). if is_text key.now name then value.now else rest) (before name)
    ∙ ap (λ (k : List ℕ). if is_text k name then value.now else value_in (take i labels) name) named
    ∙ ap (λ (v : List ℕ). if is_text label.name name then v else value_in (take i labels) name) valued
    ∙ sym (ap (λ (ls : List Label). value_in ls name) (take_more labels i label within ∙ ap (λ (l : Label). take i labels ++ l ∷ []) (sym is))
    ∙ value-last (take i labels) label name)
