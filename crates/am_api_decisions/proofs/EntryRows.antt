-- Entries of the log, written one after the other.
use Rattle.std.proofs.Common.{◌≡◌, ℕ, ◌+◌, ◌<◌, ◌≤◌, List, [], ◌∷◌, ◌++◌, length, take, get_or, map, sym, subst, ap, ap₂, ◌∙◌, le_refl, append_assoc}
use Rattle.std.specs.List.{slice_range}
use Rattle.std.proofs.lemmas.List.{take-append-drop, take-take, take_all, take_more, map-append}
use Rattle.std.proofs.lemmas.Slice.{between_is}
use Rattle.std.proofs.lemmas.Grind.{flat_map-append}
use Rattle.json.specs.Token.{Token, begin_array, end_array}
use Rattle.json.specs.Print.{print}
use Rattle.json.specs.Written.{Written}
use Rattle.serde_json.specs.Data.{Data, array}
use Rattle.serde_json.specs.View.{items_of}
use Rattle.serde_json.specs.Written.{compact_text}
use Rattle.serde_json.proofs.Texts.{print-outline}
use Rattle.am_nflog.specs.Mesh.{Mesh}
use Rattle.am_silence_json.specs.Tokens.{Adds, data_tokens, row_tokens}
use Rattle.am_silence_json.proofs.Bodies.{items_are}
use Rattle.am_silence_json.proofs.Rows.{one_more}
use Rattle.am_report.specs.Json.Values.{entry_data}
use Rattle.am_report.specs.Json.Views.{list_line}
use Rattle.am_api_decisions.specs.Entries.{AreWritten}

-- the next entry is added
pub entry_more : {a b c : Written} (rows : List Mesh) (i : ℕ) (row : Mesh) → i < length rows → row ≡ get_or rows i row
    → Adds a b (row_tokens (map entry_data (take i rows))) → Adds b c (data_tokens (entry_data row)) → Adds a c (row_tokens (map entry_data (take (i + 1) rows)))
entry_more rows i row h e before added =
    rw (take_more rows i row h, ← e, map-append entry_data (take i rows) (row ∷ [])) (one_more (map entry_data (take i rows)) (entry_data row) before added)

-- a stretch behind what stands before it
stretch : (rows : List Mesh) (i j : ℕ) → i ≤ j → take i rows ++ slice_range rows i j ≡ take j rows
stretch rows i j before =
    ap₂ (λ first more. first ++ more) (sym (take-take i j rows before)) (between_is rows i j) ∙ take-append-drop i (take j rows)

-- entries behind others
written_append : (rows more : List Mesh) (out new : Written) → AreWritten rows out.tokens → Adds out new (row_tokens (map entry_data more)) → AreWritten (rows ++ more) new.tokens
written_append rows more out new before added =
    added.tokens ∙ ap (λ (ts : List Token). ts ++ row_tokens (map entry_data more)) before
    ∙ ap (λ (ts : List Token). begin_array ∷ ts) (sym (flat_map-append data_tokens (map entry_data rows) (map entry_data more))
    ∙ ap row_tokens (sym (map-append entry_data rows more)))

-- a stretch more
pub stretch_written : (rows : List Mesh) (i j : ℕ) (out new : Written) → i ≤ j → AreWritten (take i rows) out.tokens
    → Adds out new (row_tokens (map entry_data (slice_range rows i j))) → AreWritten (take j rows) new.tokens
stretch_written rows i j out new before written added =
    subst (λ (first : List Mesh). AreWritten first new.tokens) (stretch rows i j before)
    (written_append (take i rows) (slice_range rows i j) out new written added)

-- and the last one
pub all_written : (rows : List Mesh) (i : ℕ) (out new : Written) → i ≤ length rows → AreWritten (take i rows) out.tokens
    → Adds out new (row_tokens (map entry_data (slice_range rows i (length rows)))) → AreWritten rows new.tokens
all_written rows i out new before written added =
    subst (λ (all : List Mesh). AreWritten all new.tokens) (take_all (length rows) rows (le_refl (length rows)))
    (stretch_written rows i (length rows) out new before written added)

-- with the closing bracket and a line feed, it is the line of the list
pub line_text : (rows : List Mesh) (out new : Written) (line : List ℕ) → AreWritten rows out.tokens → Adds out new (end_array ∷ [])
    → line ≡ new.before ++ print new.tokens ++ 10 ∷ [] → line ≡ out.before ++ list_line (map entry_data rows)
line_text rows out new line written added ended =
    let ds : List Data = map entry_data rows in
    ended ∙ ap (λ (text : List ℕ). text ++ 10 ∷ []) (ap₂ (λ a b. a ++ print b) added.before
    (added.tokens ∙ ap (λ (ts : List Token). ts ++ end_array ∷ []) written ∙ ap (λ (ts : List Token). begin_array ∷ ts) (sym (items_are ds)))
    ∙ ap (λ (text : List ℕ). out.before ++ text) (print-outline (array (items_of ds))))
    ∙ append_assoc out.before (compact_text (array (items_of ds))) (10 ∷ [])

-- behind nothing it stands alone
pub alone : (before text items : List ℕ) → before ≡ [] → items ≡ before ++ text → items ≡ text
alone before text items none is = is ∙ ap (λ (first : List ℕ). first ++ text) none
