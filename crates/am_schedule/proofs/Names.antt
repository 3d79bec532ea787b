-- Names that are read one after the other.
use Rattle.std.proofs.Common.{◌≡◌, ◌<◌, ◌+◌, ℕ, true, false, List, [], ◌∷◌, ◌++◌, Option, Some, None, Bor, append_assoc, drop, get_or, length, map}
use Rattle.std.proofs.lemmas.List.{drop_more}
use Rattle.std.specs.Prelude.{◌&&◌, if◌then◌else◌}
use Rattle.std.specs.List.{list_all, list_any}
use Rattle.std.specs.Str.{bytes_eq}
use Rattle.am_schedule.specs.Lists.{are_new}
use Rattle.am_schedule.specs.Clusters.{is_name}

-- names, and those that come behind them
abbrev pub names_behind : List (List ℕ) → List (List ℕ) → Option (List (List ℕ))
names_behind names more = if list_all is_name more && are_new names more then Some (names ++ more) else None

-- a new name
pub name_behind : (names : List (List ℕ)) (name : List ℕ) (more : List (List ℕ)) → is_name name ≡ true → list_any (λ t. bytes_eq t name) names ≡ false
    → names_behind (names ++ name ∷ []) more ≡ names_behind names (name ∷ more)
name_behind names name more is new = rw (is, new) (simp append_assoc)

-- the new name at a place
pub name_here : (names : List (List ℕ)) (words : List (Bor (List ℕ))) (place : ℕ) (none : Bor (List ℕ)) → place < length words → is_name (get_or words place none).now ≡ true
    → list_any (λ t. bytes_eq t (get_or words place none).now) names ≡ false
    → names_behind (names ++ (get_or words place none).now ∷ []) (map (λ w. w.now) (drop (place + 1) words)) ≡ names_behind names (map (λ w. w.now) (drop place words))
name_here names words place none within is new = rw (drop_more words place none within) (name_behind names _ _ is new)
