-- The files that a crash leaves of saves that lack a sync.
use Rattle.std.proofs.Common.{◌≡◌, ◌≢◌, inl, inr, ⊎_elim, ℕ, ◌==◌, if◌then◌else◌, Bool, true, false, List, [], codes, Option, Some, None, unwrap_or, option_map, IfSome, bytes_eq, refl, sym, ◌∙◌, ap, arith}
use Rattle.std.proofs.lemmas.Bool.{cases_Bool}
use Rattle.std.proofs.lemmas.Slice.Eq.{bytes_eq-Decides}
use Rattle.am_store.specs.Calls.{Make, Rename}
use Rattle.am_store.specs.Saves.{beside, saving}
use Rattle.am_store.specs.Crashes.{Agrees, Exactly, Names, Disk, Remains, MayLeave, IsNew, Does, Runs, bytes_at, with_names, with_bytes}
use Rattle.am_store.proofs.Crashes.{apart}
use Rattle.am_store.specs.UnsyncedSaves.{one_file, without_the_file, without_the_directory}

at_itself : (path : List ℕ) (a b : Option ℕ) → (if bytes_eq path path then a else b) ≡ a
at_itself path a b = ap (λ (test : Bool). if test then a else b) ((bytes_eq-Decides path path).1 refl)

at_other : (other path : List ℕ) (a b : Option ℕ) → other ≢ path → (if bytes_eq other path then a else b) ≡ b
at_other other path a b apart = elim (cases_Bool (bytes_eq other path)) [
  | inl same ↦ absurd (apart ((bytes_eq-Decides other path).0 same))
  | inr differs ↦ ap (λ (test : Bool). if test then a else b) differs
]

not_one : (test : Bool) → ◌≡◌ {A = Option ℕ} (if test then Some 0 else None) (Some 1) → ⊥
not_one true e = omega (arith, ap (λ (o : Option ℕ). unwrap_or o 0) e)
not_one false e = omega (arith, ap (λ (o : Option ℕ). unwrap_or o 0) e)

module _ (path bytes : List ℕ) where
  abbrev named : Names
  named = λ name. if bytes_eq name (beside path) then Some 1 else (one_file path bytes).names name

  abbrev placed : Names
  placed = λ name. if bytes_eq name path then Some 1 else named name

  is_new : IsNew 1 (one_file path bytes)
  is_new = record {
    unknown = refl;
    unnamed = λ names among name is. ⊎_elim (λ now. not_one (bytes_eq name path) (sym (ap (λ (n : Names). n name) now) ∙ is)) (λ none. none) among;
  }

  abbrev made : Disk
  made = record (with_names (one_file path bytes) named) { created = 1 }

  makes : Does (Make (beside path)) (one_file path bytes) made
  makes = (
    named,
    1,
    is_new,
    at_itself (beside path) (Some 1) ((one_file path bytes).names (beside path)),
    (λ other apart. at_other other (beside path) (Some 1) ((one_file path bytes).names other) apart),
    refl,
    at_other (beside path) path (Some 0) None (λ same. apart path (sym same)),
  )

  renames : (disk : Disk) → disk.names ≡ named → Does (Rename (beside path) path) disk (with_names disk placed)
  renames disk same = (
    placed,
    at_itself path (Some 1) (named path) ∙ sym (at_itself (beside path) (Some 1) ((one_file path bytes).names (beside path))) ∙ sym (ap (λ (n : Names). n (beside path)) same),
    (λ other from apart. at_other other path (Some 1) (named other) apart ∙ sym (ap (λ (n : Names). n other) same)),
    refl,
  )

  pub whole : (row : List ℕ) → (new : Disk) × Runs (saving false path (codes ".") row) (one_file path bytes) new
  whole row =
      let synced : Disk = with_bytes made (Some row) in
      let renamed : Disk = with_names synced placed in
      let last : Disk = record renamed { earlier = [] } in
      (last, (one_file path bytes, inl refl, (made, makes, (made, refl, (synced, refl, (renamed, renames synced refl, (last, inl (refl, refl), refl)))))))

  module _ (found : List ℕ) where
    old_or_found : (test : Bool) → IfSome (if test then Some (Exactly bytes) else None) (λ known. Agrees known (if test then bytes else found))
    old_or_found true = refl
    old_or_found false = tt

    pub file_lost : (new : Disk) × (left : Remains) × Runs (without_the_file path) (one_file path bytes) new × MayLeave new left × (bytes_at left path ≡ Some found)
    file_lost =
        let renamed : Disk = with_names made placed in
        let last : Disk = record renamed { earlier = [] } in
        let left : Remains = record { names = placed; bytes = λ file. if file == 0 then bytes else found } in (
          last,
          left,
          (made, makes, (renamed, renames made refl, (last, inl (refl, refl), refl))),
          record { names = inl refl; files = λ file. old_or_found (file == 0) },
          ap (λ (o : Option ℕ). option_map (λ (file : ℕ). if file == 0 then bytes else found) o) (at_itself path (Some 1) (named path)),
        )

  module _ (row : List ℕ) where
    row_or_old : (a b : Bool) → IfSome (if a then Some (Exactly row) else (if b then Some (Exactly bytes) else None)) (λ known. Agrees known (if a then row else bytes))
    row_or_old true b = refl
    row_or_old false true = refl
    row_or_old false false = tt

    pub names_lost : (new : Disk) × (left : Remains) × Runs (without_the_directory path row) (one_file path bytes) new × MayLeave new left × (bytes_at left path ≡ Some bytes)
    names_lost =
        let synced : Disk = with_bytes made (Some row) in
        let last : Disk = with_names synced placed in
        let left : Remains = record { names = (one_file path bytes).names; bytes = λ file. if file == 1 then row else bytes } in (
          last,
          left,
          (made, makes, (synced, refl, (last, renames synced refl, refl))),
          record { names = inr (inr (inl refl)); files = λ file. row_or_old (file == 1) (file == 0) },
          ap (λ (o : Option ℕ). option_map (λ (file : ℕ). if file == 1 then row else bytes) o) (at_itself path (Some 0) None),
        )
