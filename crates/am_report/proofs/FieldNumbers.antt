-- Fields that are taken one after the other.
use Rattle.std.proofs.Common.{◌≡◌, ◌≢◌, ℕ, suc, ◌+◌, ◌-◌, ◌<◌, ◌≤◌, Bool, true, false, cond, List, [], ◌∷◌, ◌++◌, ◌==◌, length, take, get_or, Option, Some, None}
use Rattle.std.proofs.Common.{refl, sym, ap, ◌∙◌, append_assoc, append-nil, length-append, arith}
use Rattle.std.specs.Prelude.{codes, filter}
use Rattle.std.specs.Option.{option_map_or}
use Rattle.std.proofs.lemmas.List.{take_more}
use Rattle.std.proofs.lemmas.List.Elements.{filter-append}
use Rattle.am_wire.specs.Fields.{FieldAt}
use Rattle.am_report.specs.Long.{fields_line}
use Rattle.am_report.specs.UnknownFields.{between, bytes_at, bytes_of, fields_in, start_of}

-- ---- the first of a list

pub first_more : (most : ℕ) (done left rest new all : List ℕ) (k : ℕ) → length done ≤ most → length done ≢ most → left ≡ k ∷ rest
    → done ++ take (most - length done) left ≡ all → new ≡ done ++ k ∷ [] → (length new ≤ most) × (new ++ take (most - length new) rest ≡ all)
first_more most done left rest new all k within other first before added =
    let size : length new ≡ length done + 1 = ap length added ∙ length-append done (k ∷ []) in
    let step : most - length done ≡ suc (most - length new) = omega arith in (
      omega arith,
      ap (λ (t : List ℕ). t ++ take (most - length new) rest) added
          ∙ append_assoc done (k ∷ []) (take (most - length new) rest)
          ∙ ap (λ (n : ℕ). done ++ take n (k ∷ rest)) (sym step)
          ∙ ap (λ (t : List ℕ). done ++ take (most - length done) t) (sym first)
          ∙ before,
    )

-- ---- those that pass a test

module _ (test : ℕ → Bool) where
  one_passes : (x : ℕ) (b : Bool) → test x ≡ b → filter test (x ∷ []) ≡ cond b (x ∷ []) []
  one_passes x b is = ap (λ c. cond c (x ∷ []) []) is

  pub filter_more : (xs found new : List ℕ) (i : ℕ) (b : Bool) → i < length xs → test (get_or xs i 0) ≡ b → found ≡ filter test (take i xs)
      → new ≡ found ++ cond b (get_or xs i 0 ∷ []) [] → new ≡ filter test (take (i + 1) xs)
  filter_more xs found new i b within is before added =
      let x : ℕ = get_or xs i 0 in
      added
      ∙ ap (λ (t : List ℕ). t ++ cond b (x ∷ []) []) before
      ∙ ap (λ (t : List ℕ). filter test (take i xs) ++ t) (sym (one_passes x b is))
      ∙ sym (filter-append test (take i xs) (x ∷ []))
      ∙ ap (filter test) (sym (take_more xs i 0 within))

-- ---- the bytes of the fields that have a number

module _ (number : ℕ) (bytes : List ℕ) where
  -- those of the field that began
  abbrev pub open_up_to : ℕ → Option ℕ → List ℕ
  open_up_to end begun = option_map_or (λ start. between start end bytes) begun []

  opened : (b : Bool) (start end : ℕ) → open_up_to end (cond b (Some start) None) ≡ cond b (between start end bytes) []
  opened true start end = refl
  opened false start end = refl

  pub bytes_more : (out new whole : List ℕ) (e : FieldAt) (es : List FieldAt) (begun next : Option ℕ) → next ≡ cond (e.number == number) (Some e.at) None
      → new ≡ out ++ open_up_to e.at begun → (out ++ open_up_to e.at begun) ++ bytes_of number bytes (e ∷ es) ≡ whole
      → (new ++ open_up_to (start_of (length bytes) es) next) ++ bytes_of number bytes es ≡ whole
  bytes_more out new whole e es begun next is added before =
      let end = start_of (length bytes) es in
      let part = cond (e.number == number) (between e.at end bytes) [] in
      ap (λ (t : List ℕ). (t ++ open_up_to end next) ++ bytes_of number bytes es) added
      ∙ ap (λ (o : Option ℕ). ((out ++ open_up_to e.at begun) ++ open_up_to end o) ++ bytes_of number bytes es) is
      ∙ ap (λ (t : List ℕ). ((out ++ open_up_to e.at begun) ++ t) ++ bytes_of number bytes es) (opened (e.number == number) e.at end)
      ∙ append_assoc (out ++ open_up_to e.at begun) part (bytes_of number bytes es)
      ∙ before

  pub bytes_begun : (out : List ℕ) (es : List FieldAt) → out ≡ [] → es ≡ fields_in bytes → (out ++ []) ++ bytes_of number bytes es ≡ bytes_at number bytes
  unfolding bytes_at
  bytes_begun out es none all = ap (λ (t : List ℕ). (t ++ []) ++ bytes_of number bytes es) none ∙ ap (bytes_of number bytes) all

  pub bytes_ended : (out new whole : List ℕ) (es : List FieldAt) (begun : Option ℕ) → es ≡ [] → new ≡ out ++ open_up_to (length bytes) begun
      → (out ++ open_up_to (start_of (length bytes) es) begun) ++ bytes_of number bytes es ≡ whole → new ≡ whole
  bytes_ended out new whole es begun none added before =
      added
      ∙ sym (append-nil (out ++ open_up_to (length bytes) begun))
      ∙ ap (λ (fs : List FieldAt). (out ++ open_up_to (start_of (length bytes) fs) begun) ++ bytes_of number bytes fs) (sym none)
      ∙ before

-- ---- the line of numbers

pub line_of_some : (numbers : List ℕ) → (length numbers == 0) ≡ false → codes "  changed fields " ++ numbers ++ codes "\n" ≡ fields_line numbers
line_of_some [] some = absurd cc
line_of_some (n ∷ numbers) some = refl
