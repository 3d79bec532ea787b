-- The filters in a query, which is a form: percent-encoded pairs between `&` (the URL Standard, section 5).
use Rattle.std.specs.Prelude.{ℕ, List, [], ◌∷◌, codes, nat_eq, if◌then◌else◌}
use Rattle.std.specs.Str.Lossy.{utf8_lossy}
use Rattle.std.specs.Cmp.Lexicographic.{pointwise}
use Rattle.form_urlencoded.specs.Form as form

-- the text that an encoded name or value stands for
abbrev pub decoded : List ℕ → List ℕ
decoded bytes = utf8_lossy (form.decode bytes)

-- the values of the pairs named `filter`, in order
abbrev pub filters_among : List (List ℕ × List ℕ) → List (List ℕ)
filters_among [] = []
filters_among (pair ∷ pairs) =
    if pointwise nat_eq (decoded pair.0) (codes "filter") then decoded pair.1 ∷ filters_among pairs else filters_among pairs

-- the filters of a query
abbrev pub filter_texts_of : List ℕ → List (List ℕ)
filter_texts_of query = filters_among (form.raw_pairs query)
