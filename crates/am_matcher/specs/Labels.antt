-- Labels by their names.
use Rattle.std.specs.Prelude.{◌≡◌, ℕ, List, [], Option, find, reverse}
use Rattle.std.specs.BTreeMap.{BTreeMap, get_by}
use Rattle.std.specs.Borrow.{Bor}
use Rattle.std.specs.Cmp.Lexicographic.{slice_cmp}
use Rattle.std.specs.Option.{option_map_or}
use Rattle.std.specs.Ordering.{nat_cmp}
use Rattle.am_matcher.specs.Texts.{is_text}
use Rattle.am_matcher.specs.declared.labels.Label.{Label}

-- The last one of the items with the name.
abbrev pub last_named : {X : Type 0} → (X → List ℕ) → List ℕ → List X → Option X
last_named name_of name items = find (λ x. is_text (name_of x) name) (reverse items)

-- The value of the last label with the name, or the empty text if there is none.
abbrev pub value_in : List Label → List ℕ → List ℕ
value_in labels name = option_map_or (λ label. label.value) (last_named (λ label. label.name) name labels) []

-- The map finds under each name the value of the label with that name, or the empty text.
abbrev pub AreValuesOf : List Label → BTreeMap (Bor (List ℕ)) (Bor (List ℕ)) → Type 0
AreValuesOf labels values =
    (name : List ℕ) → option_map_or (λ value. value.now) (get_by (λ key. slice_cmp nat_cmp name key.now) values) [] ≡ value_in labels name
