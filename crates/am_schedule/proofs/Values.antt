-- The values of words that are read one after the other.
use Rattle.std.proofs.Common.{◌≡◌, ◌<◌, ◌≤◌, ◌+◌, ℕ, List, [], ◌∷◌, ◌++◌, Option, Some, None, Bor, refl, append_assoc, drop, get_or, length, map}
use Rattle.std.specs.Prelude.{option_map}
use Rattle.std.proofs.lemmas.List.{drop_more, drop_all}
use Rattle.am_schedule.specs.Lists.{values}

-- the value at a place
pub value_here : {B : Type 0} → (value : List ℕ → Option B) (words : List (Bor (List ℕ))) (place : ℕ) (none : Bor (List ℕ)) (x : B) → place < length words → value (get_or words place none).now ≡ Some x
    → values value (map (λ w. w.now) (drop place words)) ≡ option_map (λ xs. x ∷ xs) (values value (map (λ w. w.now) (drop (place + 1) words)))
value_here value words place none x within is = rw (drop_more words place none within, is)

-- the values behind the last place
pub values_end : {B : Type 0} → (value : List ℕ → Option B) (words : List (Bor (List ℕ))) (place : ℕ) → length words ≤ place → values value (map (λ w. w.now) (drop place words)) ≡ Some []
values_end value words place past = rw (drop_all place words past)

-- one more value
pub one_more : {A : Type 0} (xs : List A) (x : A) (later : Option (List A)) → option_map (λ ys. (xs ++ x ∷ []) ++ ys) later ≡ option_map (λ ys. xs ++ ys) (option_map (λ ys. x ∷ ys) later)
one_more xs x None = refl
one_more xs x (Some ys) = simp append_assoc
