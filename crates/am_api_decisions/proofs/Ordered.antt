-- The labels of an object are in the order of their names.
use Rattle.std.proofs.Common.{◌≡◌, ℕ, List, [], ◌∷◌, map, Some, None, Option, Less, nat_cmp, string_bytes, string_cmp, String, Global, refl}
use Rattle.std.specs.Prelude.{option_and_then, option_map}
use Rattle.std.specs.Cmp.Lexicographic.{slice_cmp}
use Rattle.std.specs.List.{AllByRecursion}
use Rattle.std.specs.List.Sorted.{IsStrictlySortedBy}
use Rattle.std.specs.Map.{keys_of}
use Rattle.serde_json.specs.Find.{as_str}
use Rattle.serde_json.specs.View.{view, members_view}
use Rattle.serde_json.proofs.Views.{Entry}
use Rattle.am_matcher.specs.declared.labels.Label.{Label}
use Rattle.am_api_decisions.specs.Messages.{labels_of}
use Rattle.am_api_decisions.specs.Orders.{AreInOrder}

-- the first label, and those behind it
record Split (name : List ℕ) (later : Option (List Label)) (labels : List Label) : Type 0 where
  value : List ℕ
  others : List Label
  behind : later ≡ Some others
  whole : labels ≡ record { name = name; value = value } ∷ others

split : (name : List ℕ) (text : Option (List ℕ)) (later : Option (List Label)) (labels : List Label)
    → option_and_then (λ value. option_map (λ ls. record { name = name; value = value } ∷ ls) later) text ≡ Some labels → Split name later labels
split name None later labels e = absurd cc
split name (Some value) None labels e = absurd cc
split name (Some value) (Some others) labels e = record { value = value; others = others; behind = refl; whole = cc }

below_all : (first : String Global) (es : List Entry) (labels : List Label) → labels_of (members_view es) ≡ Some labels
    → AllByRecursion (λ k. string_cmp first k ≡ Less) (keys_of es) → AllByRecursion (λ name. slice_cmp nat_cmp (string_bytes first) name ≡ Less) (map (λ (l : Label). l.name) labels)
below_all first [] labels e h = let none : labels ≡ [] = cc in rw none tt
below_all first (x ∷ es) labels e h =
    let parts = split (string_bytes x.0) (as_str (view x.1)) (labels_of (members_view es)) labels e in
    rw parts.whole (h.0, below_all first es parts.others parts.behind h.1)

pub in_order : (es : List Entry) (labels : List Label) → labels_of (members_view es) ≡ Some labels → IsStrictlySortedBy string_cmp (keys_of es) → AreInOrder labels
unfolding IsStrictlySortedBy
in_order [] labels e h = let none : labels ≡ [] = cc in rw none tt
in_order (x ∷ es) labels e h =
    let parts = split (string_bytes x.0) (as_str (view x.1)) (labels_of (members_view es)) labels e in
    rw parts.whole (below_all x.0 es parts.others parts.behind h.0, in_order es parts.others parts.behind h.1)
