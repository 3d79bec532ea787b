-- The hash of an alert, by which a log entry of Alertmanager knows it: XXH64 of its labels (its notify.go, `hashAlert`).
use Rattle.std.specs.Prelude.{ℕ, List, [], ◌∷◌, ◌++◌}
use Rattle.std.specs.List.{flat_map}
use Rattle.std.specs.Ordering.{nat_cmp}
use Rattle.std.specs.Cmp.Lexicographic.{slice_cmp}
use Rattle.std.specs.BTreeMap.{insert_entry}
use Rattle.am_matcher.specs.declared.labels.Label.{Label}
use Rattle.am_api_decisions.specs.Xxh64.{xxh64}

-- Names with their values, after those of labels are inserted one by one: a name goes to its place in the byte order, and if
-- labels have the same name, the last one counts.
abbrev pub by_name : List (List ℕ × List ℕ) → List Label → List (List ℕ × List ℕ)
by_name values [] = values
by_name values (label ∷ labels) = by_name (insert_entry (slice_cmp nat_cmp) values label.name label.value) labels

-- a text and the byte FF, which occurs in no text
abbrev pub ended : List ℕ → List ℕ
ended text = text ++ 0xFF ∷ []

-- a name and its value, each ended
abbrev pub ended_pair : List ℕ × List ℕ → List ℕ
ended_pair pair = ended pair.0 ++ ended pair.1

-- the hash of an alert with these labels
unfoldable pub alert_hash : List Label → ℕ
alert_hash labels = xxh64 (flat_map ended_pair (by_name [] labels))
