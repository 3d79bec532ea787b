-- Stretches of a list.
use Rattle.std.proofs.Common.{◌≡◌, ℕ, ◌≤◌, List, [], ◌∷◌, ◌++◌, length, take, sym, subst, ap, ap₂, ◌∙◌, le_refl}
use Rattle.std.specs.List.{slice_range}
use Rattle.std.proofs.lemmas.List.{take-append-drop, take-take, take_all}
use Rattle.std.proofs.lemmas.Slice.{between_is}
use Rattle.std.proofs.lemmas.Grind.{flat_map-append}
use Rattle.json.specs.Token.{Token, begin_array, end_array}
use Rattle.json.specs.Print.{print}
use Rattle.json.specs.Written.{Written}
use Rattle.serde_json.specs.Data.{Data, array}
use Rattle.serde_json.specs.View.{items_of}
use Rattle.serde_json.specs.Written.{compact_text}
use Rattle.serde_json.proofs.Texts.{print-outline}
use Rattle.am_silence.specs.declared.state.State.{State}
use Rattle.am_silence.specs.Mesh.{Mesh}
use Rattle.am_silence_json.specs.Gettables.{AreGettable}
use Rattle.am_silence_json.specs.Listing.{AreWritten}
use Rattle.am_silence_json.specs.Tokens.{Adds, data_tokens, row_tokens}
use Rattle.am_silence_json.proofs.Bodies.{items_are}

-- a stretch behind what stands before it
pub stretch : (rows : List (Mesh × State)) (i j : ℕ) → i ≤ j → take i rows ++ slice_range rows i j ≡ take j rows
stretch rows i j before =
    ap₂ (λ first more. first ++ more) (sym (take-take i j rows before)) (between_is rows i j) ∙ take-append-drop i (take j rows)

-- silences behind others
gettable_append : (rows more : List (Mesh × State)) (ds es : List Data) → AreGettable rows ds → AreGettable more es → AreGettable (rows ++ more) (ds ++ es)
gettable_append [] more [] es first second = second
gettable_append [] more (d ∷ ds) es first second = absurd first
gettable_append (row ∷ rows) more [] es first second = absurd first
gettable_append (row ∷ rows) more (d ∷ ds) es first second = (first.0, gettable_append rows more ds es first.1 second)

-- and they are written so
pub written_append : (rows more : List (Mesh × State)) (out new : Written) (es : List Data) → AreWritten rows out.tokens → AreGettable more es → Adds out new (row_tokens es)
    → AreWritten (rows ++ more) new.tokens
written_append rows more out new es before gettable added = (
  before.0 ++ es,
  gettable_append rows more before.0 es before.1 gettable,
  added.tokens ∙ ap (λ (ts : List Token). ts ++ row_tokens es) before.2 ∙ ap (λ (ts : List Token). begin_array ∷ ts) (sym (flat_map-append data_tokens before.0 es)),
)

-- a stretch more
pub stretch_written : (rows : List (Mesh × State)) (i j : ℕ) (out new : Written) → i ≤ j → AreWritten (take i rows) out.tokens
    → ((ds : List Data) × AreGettable (slice_range rows i j) ds × Adds out new (row_tokens ds)) → AreWritten (take j rows) new.tokens
stretch_written rows i j out new before written added =
    subst (λ (first : List (Mesh × State)). AreWritten first new.tokens) (stretch rows i j before)
    (written_append (take i rows) (slice_range rows i j) out new added.0 written added.1 added.2)

-- and the last one
pub all_written : (rows shown : List (Mesh × State)) (i : ℕ) (out new : Written) → rows ≡ shown → i ≤ length rows → AreWritten (take i rows) out.tokens
    → ((ds : List Data) × AreGettable (slice_range rows i (length rows)) ds × Adds out new (row_tokens ds)) → AreWritten shown new.tokens
all_written rows shown i out new same before written added =
    subst (λ (all : List (Mesh × State)). AreWritten all new.tokens) (take_all (length rows) rows (le_refl (length rows)) ∙ same)
    (stretch_written rows i (length rows) out new before written added)

-- with the closing bracket, it is the text of the list
pub list_text : (ds : List Data) (out new : Written) → out.tokens ≡ begin_array ∷ row_tokens ds → Adds out new (end_array ∷ []) → (items : List ℕ)
    → items ≡ new.before ++ print new.tokens → items ≡ out.before ++ compact_text (array (items_of ds))
list_text ds out new tokens added items is =
    is ∙ ap₂ (λ a b. a ++ print b) added.before
    (added.tokens ∙ ap (λ (ts : List Token). ts ++ end_array ∷ []) tokens ∙ ap (λ (ts : List Token). begin_array ∷ ts) (sym (items_are ds)))
    ∙ ap (λ (text : List ℕ). out.before ++ text) (print-outline (array (items_of ds)))

-- behind nothing it stands alone
pub alone : (before text items : List ℕ) → before ≡ [] → items ≡ before ++ text → items ≡ text
alone before text items none is = is ∙ ap (λ (first : List ℕ). first ++ text) none
