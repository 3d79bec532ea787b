-- A list that was written is refused only where a silence is too large.
use Rattle.std.proofs.Common.{◌≡◌, ◌≢◌, ℕ, zero, suc, List, [], ◌∷◌, Some, rules, refl, sym, ◌∙◌}
use Rattle.std.specs.Prelude.{slice_get, Result, Ok, Err, IfErr}
use Rattle.serde_json.specs.Data.{Data, array}
use Rattle.serde_json.specs.View.{items_of}
use Rattle.am_silence.specs.declared.state.State.{State}
use Rattle.am_silence.specs.Mesh.{Mesh}
use Rattle.am_silence_json.specs.declared.key.ShownKey.{ShownKey}
use Rattle.am_silence_json.specs.declared.key.ShownKey.TheVariants as keys
use Rattle.am_silence_json.specs.declared.list_error.ListError.{ListError}
use Rattle.am_silence_json.specs.declared.list_error.ListError.TheVariants as errors
use Rattle.am_silence_json.specs.Gettables.{AreGettable}
use Rattle.am_silence_json.specs.Shown.{IsShown, IsShownRight, FitsMessage, cut_to_shown}
use Rattle.am_silence_json.specs.Lists.{IsJsonText, IsListText, IsNoList, IsWrongAt, IsTooLargeAt, IsRowTooLarge}
use Rattle.am_silence_json.proofs.OneList.{items_tell, versions_same}
use Rattle.am_silence_json.proofs.ShownAgain.{one_again}

-- what an object shows stands right at each key
shown_right : (d : Data) (m : Mesh) → IsShown d m → (key : ShownKey) → IsShownRight d key
shown_right d m h keys.Id = rw h.id (search rules)
shown_right d m h keys.StartsAt = (h.starts_at.whole, h.starts_at.here)
shown_right d m h keys.EndsAt = (h.ends_at.whole, h.ends_at.here)
shown_right d m h keys.UpdatedAt = (h.updated_at.whole, h.updated_at.here)
shown_right d m h keys.CreatedBy = rw h.created_by (search rules)
shown_right d m h keys.Comment = rw h.comment (search rules)
shown_right d m h keys.Matchers = rw h.matchers (search rules)

-- the row of an object
row_of : (rows : List (Mesh × State)) (ds : List Data) (i : ℕ) (d : Data) → AreGettable rows ds → slice_get ds i ≡ Some d
    → (row : Mesh × State) × (slice_get rows i ≡ Some row) × IsShown d (cut_to_shown row.0)
row_of [] [] i d h e = absurd (cc e)
row_of [] (c ∷ ds) i d h e = absurd h
row_of (row ∷ rows) [] i d h e = absurd h
row_of (row ∷ rows) (c ∷ ds) zero d h e =
    let same : c ≡ d = cc e in
    let shown = rw same at (one_again row.0 row.1 c h.0) in (row, refl, shown)
row_of (row ∷ rows) (c ∷ ds) (suc i) d h e = row_of rows ds i d h.1 e

module _ (body : List ℕ) (rows : List (Mesh × State)) (ds : List Data) (h : AreGettable rows ds) (text : IsListText body ds) where
  same_objects : (es : List Data) → IsListText body es → es ≡ ds
  same_objects es t =
      let both : Some (array (items_of es)) ≡ Some (array (items_of ds)) = sym t.text ∙ text.text in
      let items : items_of es ≡ items_of ds = cc both in items_tell es ds items

  is_list : IsNoList body → ⊥
  is_list n =
      let both : Some n.value ≡ Some (array (items_of ds)) = sym n.text.text ∙ text.text in
      let same : n.value ≡ array (items_of ds) = cc both in
      let none = rw same at n.no_array in cc none

  none_wrong : (i : ℕ) (key : ShownKey) (es : List Data) → IsListText body es → IsWrongAt es i key → ⊥
  none_wrong i key es t w =
      let here = rw (same_objects es t) at w.first.here in
      let row = row_of rows ds i w.object h here in w.wrong.wrong (shown_right w.object _ row.2 key)

  row_large : (i : ℕ) (es : List Data) → IsListText body es → IsTooLargeAt es i → IsRowTooLarge rows (errors.TooLarge i)
  row_large i es t w =
      let here = rw (same_objects es t) at w.first.here in
      let found = row_of rows ds i w.object h here in
      let same : w.large.version ≡ cut_to_shown found.0.0 = versions_same w.object _ _ w.large.shown found.2 in
      record {
        place = i;
        row = found.0;
        error = refl;
        here = found.1;
        large = λ (f : FitsMessage (cut_to_shown found.0.0)). let fits = rw (← same) at f in w.large.size fits;
      }

  pub why_refused : (e : ListError) → (e ≡ errors.BadJson → (d : Data) → ¬ IsJsonText body d) → (e ≡ errors.NoList → IsNoList body)
      → ((i : ℕ) (key : ShownKey) → e ≡ errors.Wrong i key → (es : List Data) × IsListText body es × IsWrongAt es i key)
      → ((i : ℕ) → e ≡ errors.TooLarge i → (es : List Data) × IsListText body es × IsTooLargeAt es i) → e ≢ errors.Memory → IsRowTooLarge rows e
  why_refused errors.BadJson bad list wrong large other = absurd (bad refl _ text)
  why_refused errors.NoList bad list wrong large other = absurd (is_list (list refl))
  why_refused (errors.Wrong i key) bad list wrong large other = let w = wrong i key refl in absurd (none_wrong i key w.0 w.1 w.2)
  why_refused (errors.TooLarge i) bad list wrong large other = let w = large i refl in row_large i w.0 w.1 w.2
  why_refused errors.Memory bad list wrong large other = absurd (other refl)

-- an error that is returned
pub of_each_error : {T E : Type 0} (r : Result T E) (Q : E → Type 0) → ((e : E) → r ≡ Err e → Q e) → IfErr r Q
of_each_error (Ok x) Q h = tt
of_each_error (Err e) Q h = h e refl
