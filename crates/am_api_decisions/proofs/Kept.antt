-- The alerts that are kept in mind.
use Rattle.std.proofs.Common.{◌≡◌, ℕ, ◌+◌, ◌-◌, ◌<◌, ◌≤◌, true, false, List, [], ◌∷◌, ◌++◌, length, map, filter, take, drop, get_or, sym, ap, ◌∙◌, arith}
use Rattle.std.specs.Prelude.{nat_le}
use Rattle.std.specs.List.{sum_by}
use Rattle.std.proofs.lemmas.Bool.{le-leb, lt-leb}
use Rattle.std.proofs.lemmas.List.{drop_all, map-append, take_more}
use Rattle.std.proofs.lemmas.List.Elements.{filter-append}
use Rattle.std.proofs.lemmas.List.Sums.{sum_by-drop_more}
use Rattle.am_api_decisions.specs.declared.message.Alert.{Alert}
use Rattle.am_matcher.specs.declared.labels.Label.{Label}
use Rattle.am_api_decisions.specs.Recent.{is_kept, kept_as, kept_of, label_size}

-- ---- the room of an alert

-- the next label, and those behind it
next_size : (labels : List Label) (i : ℕ) (label : Label) → i < length labels → label ≡ get_or labels i label
    → sum_by label_size (drop i labels) ≡ label_size label + sum_by label_size (drop (i + 1) labels)
next_size labels i label inside is =
    sum_by-drop_more label_size labels i label inside ∙ ap (λ (l : Label). label_size l + sum_by label_size (drop (i + 1) labels)) (sym is)

-- it fits
pub one_less : (labels : List Label) (i room left less : ℕ) (label : Label) → i < length labels → label ≡ get_or labels i label
    → sum_by label_size (drop i labels) + room ≡ sum_by label_size labels + left → label_size label ≤ left → less ≡ left - label_size label
    → sum_by label_size (drop (i + 1) labels) + room ≡ sum_by label_size labels + less
one_less labels i room left less label inside is before fits gone = omega (arith, next_size labels i label inside is, before, fits, gone)

-- it doesn't, and so they don't
pub too_large : (labels : List Label) (i room left : ℕ) (label : Label) → i < length labels → label ≡ get_or labels i label
    → sum_by label_size (drop i labels) + room ≡ sum_by label_size labels + left → ¬ (label_size label ≤ left)
    → false ≡ nat_le (sum_by label_size labels) room
too_large labels i room left label inside is before large =
    let more : room < sum_by label_size labels = omega (arith, next_size labels i label inside is, before, large) in
    sym (lt-leb (sum_by label_size labels) room more)

-- all of them do
pub all_fit : (labels : List Label) (i room left : ℕ) → length labels ≤ i → sum_by label_size (drop i labels) + room ≡ sum_by label_size labels + left
    → true ≡ nat_le (sum_by label_size labels) room
all_fit labels i room left all before =
    let none : sum_by label_size (drop i labels) ≡ 0 = ap (λ (ls : List Label). sum_by label_size ls) (drop_all i labels all) in
    let few : sum_by label_size labels ≤ room = omega (arith, none, before) in
    sym (le-leb (sum_by label_size labels) room few)

-- ---- the alerts of a message

-- those so far and the next one
pub with_next : (key : List ℕ) (alerts : List Alert) (i : ℕ) (alert : Alert) → i < length alerts → alert ≡ get_or alerts i alert
    → kept_of key (take (i + 1) alerts) ≡ kept_of key (take i alerts) ++ kept_of key (alert ∷ [])
with_next key alerts i alert inside is =
    ap (kept_of key) (take_more alerts i alert inside ∙ ap (λ (a : Alert). take i alerts ++ a ∷ []) (sym is))
    ∙ ap (map (kept_as key)) (filter-append (is_kept key) (take i alerts) (alert ∷ []))
    ∙ map-append (kept_as key) (filter (is_kept key) (take i alerts)) (filter (is_kept key) (alert ∷ []))
