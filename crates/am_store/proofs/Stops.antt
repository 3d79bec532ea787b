-- The calls of a save, joined, and the faults of its row.
use Rattle.std.proofs.Common.{◌≡◌, ℕ, Bool, true, false, List, [], ◌∷◌, ◌++◌, Option, Some, None, Result, Ok, Err, is_err, OnOk, refl, ap, sym, ◌∙◌, take, drop, lit<}
use Rattle.std.specs.Prelude.{◌==◌}
use Rattle.std.specs.Str.{NoCharPasses}
use Rattle.std.specs.Str.Pattern.{HasCharAt}
use Rattle.std.proofs.lemmas.List.{take-append-drop}
use Rattle.std.proofs.lemmas.Str.Pattern.{NoCharPasses-char, drop_at_char}
use mathlib.Core.List.{append_assoc}
use Rattle.std.specs.Io.KnownBytes.{Appends}
use Rattle.am_snapshot.specs.Saving.{StopsSaving}
use Rattle.am_snapshot.specs.declared.error.SnapshotError.{SnapshotError}
use Rattle.am_snapshot.specs.declared.error.SnapshotError.TheVariants as snapshot
use Rattle.am_store.specs.Calls.{Event, Remove, Make}
use Rattle.am_store.specs.Saves.{HasNoSlash, IsCut, IsOfRow, Lack, beside, replacing_until, saving_until, Unreplaced}

-- all that went into an empty file
pub whole : (new : Option (List ℕ)) (row : List ℕ) → Appends (Some []) new row → new ≡ Some row
whole None row a = absurd a
whole (Some bytes) row a = ap Some a

-- why the row is not written
pub of_row : {W : Type 0} (contents : W → Option (List ℕ)) (old new : W) (fits : Type 0) (row : List ℕ) (e : SnapshotError)
    → StopsSaving contents old new row e → (e ≡ snapshot.TooLarge → ¬ fits) → IsOfRow fits row e
of_row contents old new fits row (snapshot.Read at) s t = s
of_row contents old new fits row (snapshot.Write k) s t = s.0
of_row contents old new fits row (snapshot.Wire w) s t = s
of_row contents old new fits row snapshot.DuplicateKey s t = s
of_row contents old new fits row snapshot.TooLarge s t = t refl
of_row contents old new fits row snapshot.Memory s t = tt

-- the calls of a save whose new file didn't take the place
pub unreplaced : (before a b c d : List Event) (name path row : List ℕ) (lack : Lack) (stood removed : Bool) → name ≡ beside path
    → a ≡ before ++ (Remove name, stood) ∷ [] → b ≡ a ++ (Make name, true) ∷ [] → c ≡ b ++ replacing_until lack path row
    → d ≡ c ++ (Remove name, removed) ∷ [] → d ≡ before ++ saving_until (Unreplaced lack) stood removed path row
unreplaced before a b c d name path row lack stood removed n ea eb ec ed =
    rw (ed, ec, eb, ea, n)
    (append_assoc (before ++ (Remove (beside path), stood) ∷ [] ++ (Make (beside path), true) ∷ []) (replacing_until lack path row) ((Remove (beside path), removed) ∷ [])
    ∙ append_assoc (before ++ (Remove (beside path), stood) ∷ []) ((Make (beside path), true) ∷ []) (replacing_until lack path row ++ (Remove (beside path), removed) ∷ [])
    ∙ append_assoc before ((Remove (beside path), stood) ∷ []) ((Make (beside path), true) ∷ (replacing_until lack path row ++ (Remove (beside path), removed) ∷ [])))

-- what is so where a call was done
pub where_done : {A E P : Type 0} (r : Result A E) → is_err r ≡ false → OnOk r P → P
where_done (Ok x) e p = p
where_done (Err x) e p = absurd cc

-- the clause of `rsplit_once` at a slash
module _ (path : List ℕ) (i j : ℕ) (free : NoCharPasses (λ d. d == 47) (drop j path)) (at : HasCharAt 47 path i j) where
  parts : path ≡ take i path ++ 47 ∷ drop j path
  parts = sym (take-append-drop i path) ∙ ap (λ rest. take i path ++ rest) (drop_at_char 47 path i j at (lit< tt))

  pub is_cut : (before name : List ℕ) → before ≡ take i path → name ≡ drop j path → IsCut path before name
  is_cut before name b n = rw (b, n) (record { parts = parts; last = λ k inside. NoCharPasses-char 47 (drop j path) k free (lit< tt) inside })

pub is_uncut : (path : List ℕ) → NoCharPasses (λ d. d == 47) path → HasNoSlash path
is_uncut path free = λ k inside. NoCharPasses-char 47 path k free (lit< tt) inside
