-- Lists as a schedule writes them.
use Rattle.std.specs.Prelude.{ℕ, Bool, true, false, not, map, List, [], ◌∷◌, ◌++◌, length, Option, Some, None, Result}
use Rattle.std.specs.Prelude.{Ok, Err, option_map, option_and_then, nat_lt, ◌==◌, ◌&&◌, codes, find, if◌then◌else◌}
use Rattle.std.specs.List.{slice_split, position_or_len, before_first, after_first, list_any}
use Rattle.std.specs.Str.{bytes_eq}
use Rattle.am_schedule.specs.declared.error.FaultKind.{FaultKind}
use Rattle.am_schedule.specs.declared.error.FaultKind.TheVariants.{Name}
use Rattle.am_schedule.specs.declared.step.Pair.{Pair}
use Rattle.am_schedule.specs.Readings.{◌>>=◌, or_fault}
use Rattle.am_schedule.specs.Words.{is_short}
use Rattle.am_schedule.specs.Numbers.{count_in}

-- the values of all elements, if each has one
abbrev pub values : {A B : Type 0} → (A → Option B) → List A → Option (List B)
values value [] = Some []
values value (x ∷ xs) = option_and_then (λ y. option_map (λ ys. y ∷ ys) (values value xs)) (value x)

-- hashes of alerts: `-` for none, or numbers separated by commas
unfoldable pub hashes_in : List ℕ → Option (List ℕ)
hashes_in word = if bytes_eq word (codes "-") then Some [] else values count_in (slice_split (λ b. b == 44) word)

-- `yes` or `no`
unfoldable pub yes_or_no_in : List ℕ → Option Bool
yes_or_no_in word = if bytes_eq word (codes "yes") then Some true else if bytes_eq word (codes "no") then Some false else None

-- a member's name
unfoldable pub member_in : List (List ℕ) → List ℕ → Result (List ℕ) FaultKind
member_in names word = or_fault Name (find (λ name. bytes_eq name word) names)

-- the sign between a name and its value
abbrev pub is_equals : ℕ → Bool
is_equals byte = byte == 61

-- a label and its value, cut at the first `=`
unfoldable pub pair_in : List ℕ → Option Pair
pair_in word =
    if is_short word && nat_lt (position_or_len is_equals word) (length word)
    then Some (record { name = before_first is_equals word; value = after_first is_equals word })
    else None

-- no text is repeated, or stands among those before
abbrev pub are_new : List (List ℕ) → List (List ℕ) → Bool
are_new before [] = true
are_new before (text ∷ texts) = not (list_any (λ t. bytes_eq t text) before) && are_new (before ++ text ∷ []) texts

-- the names of pairs
abbrev pub names_of : List Pair → List (List ℕ)
names_of pairs = map (λ pair. pair.name) pairs

-- the pairs of words, if no name is repeated
unfoldable pub pairs_in : List (List ℕ) → Result (List Pair) FaultKind
pairs_in words = or_fault Name (values pair_in words) >>= λ pairs. if are_new [] (names_of pairs) then Ok pairs else Err Name
