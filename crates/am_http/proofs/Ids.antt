-- The identifier in a path.
use Rattle.std.proofs.Common.{◌≡◌, ℕ, ◌+◌, ◌<◌, ◌≤◌, Bool, false, List, ◌++◌, length, get_or, drop, codes, Some, None, MatchBool, sym, ap, ◌∙◌, arith, lit<}
use Rattle.std.specs.Prelude.{Contains}
use Rattle.std.specs.Str.Pattern.{FindsTextPrefix, FindsChar}
use Rattle.std.proofs.lemmas.Bool.{false≢true}
use Rattle.std.proofs.lemmas.Str.Pattern.{contains_char}
use Rattle.std.proofs.lemmas.Grind.{common_steps}
use Rattle.am_http.specs.Paths.{IsPathOf}

-- what the path of one silence begins with
abbrev pub silence_path : List ℕ
silence_path = codes "/api/v2/silence/"

-- a path that doesn't begin so is that of no silence
pub lacks_prefix : (path : List ℕ) → FindsTextPrefix silence_path path None → (id : List ℕ) → ¬ (IsPathOf path id)
lacks_prefix path none id is = none id is.spelled

-- what follows that beginning
pub behind_prefix : (path id : List ℕ) → ((n : ℕ) × FindsTextPrefix silence_path path (Some n) × (id ≡ drop n path) × (length id + n ≡ length path)) → path ≡ silence_path ++ id
behind_prefix path id found = found.1.1 ∙ ap (λ (rest : List ℕ). silence_path ++ rest) (sym found.2)

same_item : (xs : List ℕ) (k d e : ℕ) → k < length xs → get_or xs k d ≡ get_or xs k e
same_item xs k d e inside = grind (arith, common_steps)

-- no `/` stands in the identifier
pub lacks_slash : (id : List ℕ) (r : Bool) → MatchBool r ((i : ℕ) × (j : ℕ) × FindsChar 47 id (Some (i, j)) × (i ≤ j) × (j ≤ length id)) (FindsChar 47 id None) → r ≡ false → ¬ (Contains id 47)
lacks_slash id r found none has =
    let is = (contains_char 47 id r found (lit< tt)).1 has.0 has.1 (same_item id has.0 0 47 has.1 ∙ has.2) in
    false≢true (sym none ∙ is)
