-- Pairs of texts: how they are put into a map of references, and how they follow each other.
use Rattle.std.proofs.Common.{◌≡◌, ℕ, ◌+◌, ◌<◌, List, [], ◌∷◌, ◌++◌, map, length, drop, get_or, refl, ap, ◌∙◌, add-one, drop-cons, append_assoc}
use Rattle.std.specs.Ordering.{nat_cmp, match_ordering}
use Rattle.std.specs.declared.cmp.Ordering.TheVariants.{Less, Equal, Greater}
use Rattle.std.specs.Cmp.Lexicographic.{slice_cmp}
use Rattle.std.specs.BTreeMap.{insert_entry}
use Rattle.std.specs.List.{flat_map}
use Rattle.std.specs.Map.Iter.{deref_pair}
use Rattle.am_matcher.specs.declared.labels.Label.{Label}
use Rattle.am_api_decisions.specs.Alerts.{by_name, ended, ended_pair}
use denote.Ref.{Bor}

-- a map of references gets what the map of their texts gets
pub insert-deref : (es : List (Bor (List ℕ) × Bor (List ℕ))) (k v : Bor (List ℕ))
    → map deref_pair (insert_entry (λ x y. slice_cmp nat_cmp x.now y.now) es k v) ≡ insert_entry (slice_cmp nat_cmp) (map deref_pair es) k.now v.now
insert-deref [] k v = refl
insert-deref (e ∷ es) k v =
    let rest = insert_entry (λ (x y : Bor (List ℕ)). slice_cmp nat_cmp x.now y.now) es k v in
    let rest_now = insert_entry (slice_cmp nat_cmp) (map deref_pair es) k.now v.now in
    elim (slice_cmp nat_cmp k.now e.0.now)
    as (λ o. map deref_pair (match_ordering o ((k, v) ∷ e ∷ es) ((e.0, v) ∷ es) (e ∷ rest))
    ≡ match_ordering o ((k.now, v.now) ∷ deref_pair e ∷ map deref_pair es) ((e.0.now, v.now) ∷ map deref_pair es) (deref_pair e ∷ rest_now)) [
      | Less ↦ refl
      | Equal ↦ refl
      | Greater ↦ ap (λ t. deref_pair e ∷ t) (insert-deref es k v)
    ]

-- one label more
pub by_name-next : (values : List (List ℕ × List ℕ)) (labels : List Label) (i : ℕ) (label : Label) → i < length labels → label ≡ get_or labels i label
    → by_name values (drop i labels) ≡ by_name (insert_entry (slice_cmp nat_cmp) values label.name label.value) (drop (i + 1) labels)
by_name-next values labels i label h e = rw (add-one, drop-cons labels i label, ← e) refl

pub label_more : (old new : List (Bor (List ℕ) × Bor (List ℕ))) (k v : Bor (List ℕ)) (labels : List Label) (i : ℕ) (label : Label)
    → i < length labels → label ≡ get_or labels i label → k.now ≡ label.name → v.now ≡ label.value
    → new ≡ insert_entry (λ x y. slice_cmp nat_cmp x.now y.now) old k v
    → by_name (map deref_pair old) (drop i labels) ≡ by_name [] labels → by_name (map deref_pair new) (drop (i + 1) labels) ≡ by_name [] labels
label_more old new k v labels i label h e name value is held =
    rw (is, insert-deref old k v, name, value, ← by_name-next (map deref_pair old) labels i label h e) held

regroup : (s a b r : List ℕ) → ((s ++ a) ++ b) ++ r ≡ s ++ ((a ++ b) ++ r)
regroup s a b r = simp append_assoc

-- one pair more
pub pair_more : (start mid end : List ℕ) (pair : List ℕ × List ℕ) (rest whole : List (List ℕ × List ℕ)) (all : List ℕ)
    → start ++ flat_map ended_pair whole ≡ all → whole ≡ pair ∷ rest → mid ≡ start ++ ended pair.0 → end ≡ mid ++ ended pair.1
    → end ++ flat_map ended_pair rest ≡ all
pair_more start mid end pair rest whole all held is first second =
    let more : start ++ ((ended pair.0 ++ ended pair.1) ++ flat_map ended_pair rest) ≡ all = rw is at held in
    rw (second, first) (regroup start (ended pair.0) (ended pair.1) (flat_map ended_pair rest) ∙ more)
