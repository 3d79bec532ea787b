-- Items of an array, one after the other.
use Rattle.std.proofs.Common.{◌≡◌, ℕ, ◌+◌, ◌<◌, ◌≤◌, ◌==◌, not, List, [], ◌∷◌, ◌++◌, length, drop, get_or, Ok, Err, Option, Result, refl, sym, ap, ◌∙◌, append-nil, append_assoc, option_map, arith}
use Rattle.std.proofs.lemmas.List.{drop_more, drop_all}
use Rattle.serde_json.specs.Data.{Data}
use Rattle.serde_json.specs.View.{view, items_view}
use Rattle.serde_json.specs.declared.value.Value.{Value}
use Rattle.am_api_decisions.specs.declared.key.MessageKey.{MessageKey}
use Rattle.am_api_decisions.specs.Steps.{◌>>=◌, each}
use Rattle.am_api_decisions.specs.Messages.{has_items}

-- ---- items that are read, or have a fault

-- what was read, and what is read behind it
abbrev pub behind : {A : Type 0} → List A → Result (List A) MessageKey → Result (List A) MessageKey
behind done later = later >>= λ others. Ok (done ++ others)

behind_one : {A : Type 0} (done : List A) (x : A) (later : Result (List A) MessageKey)
    → behind done (later >>= λ xs. Ok (x ∷ xs)) ≡ behind (done ++ x ∷ []) later
behind_one done x (Ok xs) = ap Ok (sym (append_assoc done (x ∷ []) xs))
behind_one done x (Err key) = refl

pub behind_none : {A : Type 0} (later : Result (List A) MessageKey) → later ≡ behind [] later
behind_none (Ok xs) = refl
behind_none (Err key) = refl

module _ {A : Type 0} (read : Data → Result A MessageKey) where
  first_read : (v : Value) (vs : List Value) (x : A) → read (view v) ≡ Ok x → each read (items_view (v ∷ vs)) ≡ (each read (items_view vs) >>= λ xs. Ok (x ∷ xs))
  first_read v vs x e = rw e refl

  pub one_read : (vs : List Value) (i : ℕ) (v : Value) (done : List A) (x : A) → i < length vs → v ≡ get_or vs i v → read (view v) ≡ Ok x
      → behind done (each read (items_view (drop i vs))) ≡ behind (done ++ x ∷ []) (each read (items_view (drop (i + 1) vs)))
  one_read vs i v done x h is e =
      ap (λ (us : List Value). behind done (each read (items_view us))) (drop_more vs i v h ∙ ap (λ (w : Value). w ∷ drop (i + 1) vs) (sym is))
      ∙ ap (behind done) (first_read v (drop (i + 1) vs) x e) ∙ behind_one done x (each read (items_view (drop (i + 1) vs)))

  first_fault : (v : Value) (vs : List Value) (key : MessageKey) → read (view v) ≡ Err key → each read (items_view (v ∷ vs)) ≡ Err key
  first_fault v vs key e = rw e refl

  pub one_fault : (vs : List Value) (i : ℕ) (v : Value) (done : List A) (key : MessageKey) → i < length vs → v ≡ get_or vs i v → read (view v) ≡ Err key
      → behind done (each read (items_view (drop i vs))) ≡ Err key
  one_fault vs i v done key h is e =
      ap (λ (us : List Value). behind done (each read (items_view us))) (drop_more vs i v h ∙ ap (λ (w : Value). w ∷ drop (i + 1) vs) (sym is))
      ∙ ap (behind done) (first_fault v (drop (i + 1) vs) key e)

  pub all_read : (vs : List Value) (i : ℕ) (done : List A) → length vs ≤ i → behind done (each read (items_view (drop i vs))) ≡ Ok done
  all_read vs i done h =
      ap (λ (us : List Value). behind done (each read (items_view us))) (drop_all i vs h) ∙ ap Ok (append-nil done)

-- there are items where there are values
pub has_items_is : (vs : List Value) → has_items (items_view vs) ≡ not (length vs == 0)
has_items_is [] = refl
has_items_is (v ∷ vs) = grind arith

-- ---- hashes

abbrev pub hashes_behind : List ℕ → Option (List ℕ) → Option (List ℕ)
hashes_behind done later = option_map (λ others. done ++ others) later
